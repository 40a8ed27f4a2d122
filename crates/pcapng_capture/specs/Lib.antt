-- What the blocks of pcapng are, and what their reading and marking comes to.
pub mod Blocks
pub mod Grammar
pub mod Marks
pub mod Options
pub mod Packets
pub mod Pieces
pub mod Readings
pub mod Stamps
