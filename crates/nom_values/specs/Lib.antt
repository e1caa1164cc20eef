pub mod Dumps
pub mod Parses
pub mod Ranges
pub mod Turns
