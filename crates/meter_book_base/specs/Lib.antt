pub mod AnyMeter
pub mod Envelopes
pub mod Limits
pub mod OutputLaws
