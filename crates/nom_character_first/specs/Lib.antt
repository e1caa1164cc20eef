pub mod FirstItem
pub mod laws
