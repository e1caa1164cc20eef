pub mod ChainLaws
pub mod ExpressionLaws
pub mod OperatorLaws
pub mod StuckLaws
pub mod ValueLaws
