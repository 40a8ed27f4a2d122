pub mod Closing
pub mod Fabrics
pub mod Faults
pub mod Gathered
pub mod Tails
pub mod Visits
