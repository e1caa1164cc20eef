pub mod Bridged
pub mod Positions
pub mod Shown
pub mod Spellings
