-- The report of a marking, as lines and as an object of JSON.
pub mod ReportObjects
pub mod Reports
