-- Contracts sold by the lines of an input.
pub mod Sales
pub mod Sold
