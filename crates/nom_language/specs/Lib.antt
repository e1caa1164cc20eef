pub mod Allocations
pub mod Evaluated
pub mod LeftFolds
pub mod Operators
pub mod Precedences
pub mod helpers
pub mod laws
pub mod Words
