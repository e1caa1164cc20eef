pub mod FuncShown
pub mod FuncSound
pub mod Grown
pub mod Staying
pub mod Stepping
pub mod Giving
