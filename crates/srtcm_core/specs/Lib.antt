pub mod Buckets
pub mod SingleRate
pub mod Sizes
