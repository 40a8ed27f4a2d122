pub mod Curve
pub mod Laws
pub mod LeakyBucket
pub mod Order
