-- What the commands of the tests answer.
pub mod Sample
