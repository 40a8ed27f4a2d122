-- Lemmas on lines, fields and numbers.
pub mod LineLemmas
pub mod NumberLemmas
pub mod LeadingLemmas
pub mod DigitLemmas
