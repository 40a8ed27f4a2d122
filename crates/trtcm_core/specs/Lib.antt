pub mod Buckets
pub mod TwoRate
pub mod Sizes
