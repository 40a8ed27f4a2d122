-- What is said beside answers, for a person.
pub mod Saying
