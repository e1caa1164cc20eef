pub mod BridgeLaws
pub mod FieldLaws
