pub mod Brackets
pub mod Comments
pub mod Sexprs
pub mod Values
