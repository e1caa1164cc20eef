pub mod Asked
pub mod Report
pub mod Settings
