-- What is said of why a plan was not done.
pub mod Asked
