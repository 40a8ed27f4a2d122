-- What is read of a capture, in either format.
pub mod Formats
pub mod Readings
pub mod Takings
