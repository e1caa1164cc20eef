pub mod AcceptedItems
pub mod AcceptedMore
pub mod CountAccumulated
pub mod CertainShown
pub mod Counted
pub mod Few
pub mod InvertedShown
pub mod ItemsShown
pub mod Accumulating
pub mod ListAccumulated
pub mod Parts
pub mod Repeated
mod Places
