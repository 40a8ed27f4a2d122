-- What a capture becomes whose frames are marked.
pub mod Faults
pub mod Markings
pub mod Passings
pub mod Writings
