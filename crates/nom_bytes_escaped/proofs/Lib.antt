pub mod Controls
pub mod NextPieceShown
pub mod EscapeShown
pub mod EscapedShown
pub mod TextsBuilt
pub mod TransformShown
