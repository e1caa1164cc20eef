pub mod AllocationShown
pub mod EvaluationShown
pub mod LeftShown
