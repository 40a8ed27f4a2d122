-- Lemmas on domain texts.
pub mod KeyLemmas
pub mod ParseLemmas
pub mod TurnLemmas
pub mod WayLemmas
