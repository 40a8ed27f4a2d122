pub mod Colours
pub mod Columns
pub mod Conformance
pub mod Excess
pub mod Fillings
pub mod Metering
pub mod Tokens
pub mod Volume
