pub mod CountedDigits
pub mod CountedRead
pub mod DigitWords
pub mod Integers
pub mod Read
pub mod Words
pub mod laws
