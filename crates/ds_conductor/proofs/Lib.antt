-- Lemmas for the proofs of this crate.
pub mod LaningLaws
pub mod RunLaws
pub mod WorkingLaws
