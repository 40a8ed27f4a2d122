pub mod FamilyLaws
-- Lemmas on masks, and on tables of rules.
pub mod MaskLaws
pub mod TableLaws
pub mod TupleLaws
