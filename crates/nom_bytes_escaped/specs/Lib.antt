pub mod Escapes
pub mod NextPieces
pub mod Texts
pub mod Words
pub mod laws
