-- What is told of faults as objects of JSON.
pub mod FaultObjects
