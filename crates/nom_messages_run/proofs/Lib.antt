mod Again
pub mod Answered
pub mod Framed
pub mod Lacks
pub mod SentLines
mod MessageParts
mod Piped
mod Putting
pub mod ReadBack
pub mod Reported
mod TypedParts
mod Whole
pub mod WrittenMessages
