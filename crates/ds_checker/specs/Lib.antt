pub mod Acceptance
pub mod Besides
pub mod BoundTests
pub mod Changes
pub mod Growths
pub mod Headrooms
pub mod Holds
pub mod Loads
pub mod Places
pub mod Refusals
pub mod Routed
pub mod Sums
pub mod Surveys
pub mod TableTests
pub mod Tests
-- what the clauses here cite of the crates below
pub use Rattle.ds_certificate.specs.Bounds
pub use Rattle.ds_certificate.specs.Columns
