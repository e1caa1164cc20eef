pub mod Separated
pub mod Promises
pub mod Words
pub mod laws
