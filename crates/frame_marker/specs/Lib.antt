-- What a frame is at a port, and how it is marked.
pub mod Frames
pub mod Marks
pub mod Packets
pub mod Ports
pub mod Sights
