-- Lemmas on names and their places.
pub mod NamedLaws
pub mod NameLaws
