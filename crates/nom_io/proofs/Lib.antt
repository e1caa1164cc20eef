pub mod Known
pub mod SeveralCalls
pub mod Written
