pub mod FourPages
pub mod Reads
pub mod Substrings
pub mod laws
pub mod Characters
