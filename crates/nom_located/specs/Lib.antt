pub mod Lines
pub mod Located
pub mod Moving
pub mod laws
