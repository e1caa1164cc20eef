pub mod Arithmetic
pub mod Named
pub mod Sections
