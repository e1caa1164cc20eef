pub mod Sequences
pub mod laws
pub mod Words
