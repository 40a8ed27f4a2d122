pub mod Again
pub mod Driven
pub mod Kept
pub mod Opened
pub mod Requests
