pub mod Account
pub mod Faults
pub mod Written
