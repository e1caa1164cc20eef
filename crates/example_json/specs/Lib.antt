pub mod Depths
pub mod Json
pub mod Numbers
pub mod Scalars
pub mod Strings
