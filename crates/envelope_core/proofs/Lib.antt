pub mod LeakyBuckets
pub mod LinearPass
pub mod Quotients
pub mod Reserved
pub mod Windows
