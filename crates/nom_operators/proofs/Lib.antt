pub mod OneTree
pub mod PendingShown
pub mod PrefixesShown
pub mod Runs
pub mod Spine
pub mod StepsShown
pub mod TreesExist
