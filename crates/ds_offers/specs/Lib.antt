-- What the calls of this crate answer, and what their types keep.
pub mod Offered
