pub mod LocatedLaws
pub mod MovingLaws
