-- Lemmas for the proofs of this crate, and of those that stand on it.
pub mod CaptureLaws
pub mod FormatLaws
pub mod OwnLaws
pub mod PieceLaws
pub mod ReadFaultLaws
pub mod ReadingLaws
pub mod SizeLaws
