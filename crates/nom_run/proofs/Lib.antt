pub mod Built
pub mod Ended
pub mod Hex
pub mod Numbers
pub mod Piecewise
pub mod Reported
pub mod JoinedLines
