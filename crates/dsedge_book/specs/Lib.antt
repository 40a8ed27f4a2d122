-- What is told of a book that a ledger keeps.
pub mod Held
pub mod Told
