-- Lemmas on prefixes and on arrays.
pub mod AddressLemmas
pub mod ArrayLemmas
pub mod PrefixLemmas
