-- Lemmas on lines of steps.
pub mod AuditLaws
pub mod ObjectLaws
pub mod StepLaws
