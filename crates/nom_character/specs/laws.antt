pub mod LineMatchLaws
