pub mod HeldLemmas
pub mod MarkLemmas
pub mod NameLemmas
pub mod QuoteLemmas
pub mod StartLemmas
pub mod TellLemmas
