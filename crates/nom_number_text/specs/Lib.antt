pub mod Exceptions
pub mod Floats
pub mod Hex
pub mod Parts
pub mod Words
pub mod laws
