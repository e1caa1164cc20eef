pub mod SubstringLaws
