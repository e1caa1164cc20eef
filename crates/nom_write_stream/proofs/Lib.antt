pub mod Adding
pub mod Counted
pub mod Everywhere
pub mod Members
pub mod Outcomes
pub mod Piped
pub mod Sending
pub mod Several
