pub mod Chapters
pub mod Gathering
pub mod Kept
pub mod KeptColours
pub mod Laws
pub mod Replay
pub mod Running
pub mod Summed
pub mod Tallies
-- what the clauses here cite of the crates below
pub use Rattle.meter_book_base.specs.AnyMeter
