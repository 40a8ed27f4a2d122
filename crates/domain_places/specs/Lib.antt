-- Where a fault of a domain's text stands.
pub mod Spots
