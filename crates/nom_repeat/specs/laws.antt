pub mod InvertedLaws
pub mod ItemsLaws
pub mod RepeatLaws
