-- What is answered to lines.
pub mod Answers
pub mod Codes
pub mod Courses
pub mod Faults
pub mod FirstLine
pub mod Fronts
pub mod Quantities
pub mod Underway
