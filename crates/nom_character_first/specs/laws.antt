pub mod FirstItemLaws
