pub mod FloatLaws
pub mod HexLaws
pub mod PartLaws
pub mod WordLaws
