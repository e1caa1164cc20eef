pub mod Outgoing
pub mod Pipes
pub mod Reasons
