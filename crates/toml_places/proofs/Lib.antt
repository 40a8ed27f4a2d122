-- Lemmas on what follows values and expressions.
pub mod Walks
