pub mod Depths
pub mod FirstItem
pub mod Passed
pub mod TokenItems
