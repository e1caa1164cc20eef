pub mod Asked
pub mod Pieces
pub mod Report
pub mod Runs
pub mod Texts
pub mod Reporting
pub mod Words
