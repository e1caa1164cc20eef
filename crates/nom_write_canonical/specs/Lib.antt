pub mod Forms
pub mod laws
