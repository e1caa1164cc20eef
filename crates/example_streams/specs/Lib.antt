pub mod Fields
pub mod Kinds
pub mod Pipes
pub mod Records
