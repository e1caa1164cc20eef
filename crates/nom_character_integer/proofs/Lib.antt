pub mod Counted
pub mod CountedShown
pub mod Readings
pub mod Shown
pub mod Signs
pub mod Tenths
