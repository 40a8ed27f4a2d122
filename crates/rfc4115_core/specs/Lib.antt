pub mod Buckets
pub mod SeparateRates
pub mod Sizes
