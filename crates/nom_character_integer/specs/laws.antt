pub mod DigitsLaws
pub mod IntegerLaws
