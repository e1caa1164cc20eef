-- The laws that impls cite.
pub mod SequenceLaws
