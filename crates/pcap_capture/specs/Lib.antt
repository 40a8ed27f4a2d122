-- What the devices and the captures of this crate do.
pub mod Codes
pub mod Counts
pub mod Frames
pub mod Fronts
pub mod Grammar
pub mod Packets
pub mod Pieces
pub mod Takings
