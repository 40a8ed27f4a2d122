-- Where a key of a TOML text stands.
pub mod Aims
pub mod Expressions
pub mod Places
pub mod Readings
pub mod Searches
