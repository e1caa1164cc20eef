pub mod Brackets
pub mod Codes
pub mod Colors
pub mod Field
pub mod Sections
pub mod Steps
