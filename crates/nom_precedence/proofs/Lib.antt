pub mod ChainShown
pub mod HeldShown
pub mod OperatorShown
pub mod PrefixesShown
pub mod ReadShown
pub mod TermShown
pub mod ValueShown
