pub mod AuditObjects
pub mod Audited
pub mod ByName
pub mod Kept
pub mod SiteNames
pub mod StepLines
