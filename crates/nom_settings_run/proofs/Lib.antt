pub mod Reported
pub mod Written
