pub mod CountLaws
pub mod DroppedLaws
pub mod FoldLaws
pub mod RangeLaws
pub mod UnfitLaws
pub mod FoldAllocLaws
