-- Lemmas for the proofs of this crate and of those above it.
pub mod ArrivalLaws
pub mod BeginningLaws
pub mod ClosingLaws
pub mod ConductLaws
pub mod ConductedLaws
pub mod ExampleLaws
mod FirstLaws
pub mod GoingLaws
pub mod JournalLaws
mod JudgeLaws
pub mod JudgingLaws
pub mod KnownLaws
pub mod ListLaws
pub mod MadeLaws
pub mod MarkLaws
pub mod MeetLaws
mod NotedLaws
pub mod OnTheWayLaws
pub mod OpenedLaws
mod PairLaws
mod PassageLaws
pub mod RunLaws
pub mod SendLaws
pub mod StepLaws
pub mod StopLaws
mod VerdictLaws
pub mod VisitLaws
pub mod VisitingLaws
