pub mod KeepingLaws
pub mod OutputLaws
pub mod TwoRateLaws
