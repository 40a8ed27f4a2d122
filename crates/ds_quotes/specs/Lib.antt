pub mod Counts
pub mod Fields
pub mod Passing
pub mod Quotes
pub mod Words
