pub mod BitRests
pub mod Bridges
pub mod Fields
pub mod Words
pub mod laws
