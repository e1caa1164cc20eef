pub mod RunLaws
pub mod TagLaws
pub mod TakeLaws
pub mod UntilLaws
