pub mod Given
pub mod Judged
pub mod Conditional
pub mod Contextual
pub mod Promised
pub mod Rests
pub mod WholeLeft
pub mod MapsAlloc
