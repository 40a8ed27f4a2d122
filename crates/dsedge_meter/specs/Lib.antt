-- What `meter` and `envelope` answer.
pub mod Arrivals
pub mod Metered
pub mod Verdicts
