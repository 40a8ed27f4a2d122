pub mod ObjectLaws
pub mod ReportLemmas
