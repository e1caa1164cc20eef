pub mod BoundedLaws
pub mod FillLaws
pub mod ManyLaws
pub mod TillLaws
pub mod LengthLaws
pub mod ValueLaws
