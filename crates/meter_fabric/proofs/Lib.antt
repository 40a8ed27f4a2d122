pub mod ColumnLaws
pub mod JournalLaws
pub mod StandLaws
pub mod TailLaws
pub mod VisitLaws
