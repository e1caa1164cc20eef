pub mod Beside
pub mod Reading
pub mod Packed
