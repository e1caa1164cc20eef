pub mod Adding
pub mod InRadix
pub mod Digits
pub mod Lists
pub mod Moved
pub mod Texts
