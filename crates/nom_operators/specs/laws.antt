pub mod OperatorTreeLaws
pub mod TreeLaws
pub mod ViewLaws
