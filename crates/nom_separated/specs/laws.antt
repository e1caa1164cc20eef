pub mod SeparatedLaws
