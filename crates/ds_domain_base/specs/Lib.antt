pub mod Domains
pub mod Faults
pub mod Fitting
pub mod Kept
pub mod Lifetimes
pub mod Names
pub mod Routes
pub mod Sent
pub mod Versions
-- what the clauses here cite of the crates below
pub use Rattle.meter_book_base.specs.Envelopes
pub use Rattle.meter_book_base.specs.Limits
pub use Rattle.meter_book_base.specs.declared.any_meter.Parameters
