-- Lemmas on files, on their texts, and on certificates of domain texts.
pub mod FittingLaws
pub mod FolderLemmas
pub mod QuoteLemmas
pub mod ShapeLemmas
pub mod TextLemmas
