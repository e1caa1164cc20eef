pub mod Folds
pub mod Functions
pub mod FirstItem
pub mod NamedValues
pub mod Numbers
pub mod Parts
pub mod Sequences
