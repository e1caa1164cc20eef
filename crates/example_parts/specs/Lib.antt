pub mod Firsts
pub mod Further
pub mod Letters
pub mod Nestings
pub mod Settings
pub mod Sources
pub mod Tokens
