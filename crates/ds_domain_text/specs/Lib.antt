-- What the functions of this crate answer.
pub mod Prefixes
pub mod Steps
pub mod Values
