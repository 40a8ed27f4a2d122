-- What the functions of this crate answer.
pub mod Digits
pub mod Lines
pub mod Numbers
