pub mod Characters
pub mod Counted
pub mod Cuts
pub mod LineEnds
