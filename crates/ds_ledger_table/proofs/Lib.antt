mod TextLemmas
mod RowLemmas
mod InsertLemmas
mod AppendLemmas
pub mod MakingLemmas
pub mod SelectLemmas
