pub mod AlternativeLaws
pub mod ListLaws
pub mod MemberLaws
pub mod NestedLaws
pub mod PermutationLaws
pub mod RoundLaws
