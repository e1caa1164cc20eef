pub mod ConditionLaws
pub mod OutputLaws
pub mod VerdictLaws
pub mod AllLaws
pub mod EndLaws
pub mod MapAllocLaws
pub mod ValueAllocLaws
