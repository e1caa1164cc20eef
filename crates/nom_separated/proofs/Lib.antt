pub mod SeparatedAccepting
pub mod SeparatedShown
