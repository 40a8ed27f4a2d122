-- Visits where each link takes its floor, and what they make of the colours that packets carry.
pub mod KeptStreams
pub mod KeptTrains
pub mod Laws
pub mod Packets
pub mod Passing
pub mod Queues
pub mod Streams
pub mod Trains
pub mod Visits
pub mod Waits
pub mod Ways
