-- What a capture would send.
pub mod Arrivals
pub mod Asked
pub mod Tellings
