-- Lemmas for the proofs of this crate, and of those that stand on it.
pub mod AheadLaws
pub mod BoundLaws
pub mod ConditionLaws
pub mod FateLaws
pub mod FrameLaws
pub mod HandingLaws
pub mod NextLaws
pub mod NoteLaws
pub mod OwnLaws
pub mod QueueLaws
pub mod ReportLaws
pub mod SeenLaws
pub mod SendableLaws
pub mod StampLaws
pub mod StretchLaws
