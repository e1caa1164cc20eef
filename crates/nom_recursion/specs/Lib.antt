pub mod Recursion
pub mod Streams
