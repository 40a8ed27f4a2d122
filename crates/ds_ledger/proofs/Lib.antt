pub mod RowLaws
pub mod FitLaws
mod KeepLaws
mod BlankLaws
mod OpenLaws
mod HistoryLaws
mod LastingLaws
mod RefusedLaws
