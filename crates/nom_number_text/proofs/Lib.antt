pub mod HexDigits
pub mod HexShown
pub mod PartDigits
pub mod PartShown
pub mod Shapes
pub mod WordShown
