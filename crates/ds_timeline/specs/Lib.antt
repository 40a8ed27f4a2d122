pub mod Constant
pub mod Kept
pub mod Timelines
