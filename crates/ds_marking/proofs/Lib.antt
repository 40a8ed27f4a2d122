-- Lemmas for the proofs of this crate.
pub mod MarkingLaws
pub mod PassingLaws
pub mod VerdictLaws
pub mod WritingLaws
