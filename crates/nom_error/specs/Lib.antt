pub mod Answers
pub mod Equality
pub mod Errors
pub mod Inputs
pub mod Kinds
pub mod Modes
pub mod PlainErrors
