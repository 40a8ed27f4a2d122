-- What a capture becomes whose frames are marked by several threads.
pub mod Lanings
pub mod Workings
-- what the clauses here cite of the crates below
pub use Rattle.ds_runs.specs.Steps
