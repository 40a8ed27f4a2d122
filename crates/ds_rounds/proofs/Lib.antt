-- Lemmas for the proofs of this crate.
pub mod ArrivalLaws
pub mod CutLaws
pub mod OrderLaws
pub mod RoundLaws
