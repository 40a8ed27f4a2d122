pub mod FaultLaws
pub mod TellingLaws
