pub mod Branches
pub mod Joined
pub mod Places
