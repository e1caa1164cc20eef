pub mod EscapeLaws
pub mod NextPieceLaws
