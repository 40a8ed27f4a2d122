-- What a caller sees of a lane, what its ends are made of, and what holds of it at each moment.
pub mod Kept
pub mod Lanes
pub mod Left
pub mod Rule
