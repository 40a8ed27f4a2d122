-- Lemmas on what is said beside answers.
pub mod SayingLaws
