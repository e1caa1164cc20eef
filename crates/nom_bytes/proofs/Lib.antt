pub mod BoundedShown
pub mod CountedWalks
pub mod Ends
pub mod RunShown
pub mod TagShown
pub mod TakeWidth
pub mod UntilShown
