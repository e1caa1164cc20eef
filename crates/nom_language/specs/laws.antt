pub mod LanguageLaws
pub mod PinnedLaws
