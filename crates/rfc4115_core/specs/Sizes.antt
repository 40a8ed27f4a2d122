-- The levels that a meter with two separate rates can have.
use Rattle.std.specs.Prelude.{◌≤◌}
use Rattle.moment_core.specs.declared.bucket.Levels.{Levels}
use Rattle.moment_core.specs.Metering.{State}
use Rattle.rfc4115_core.specs.declared.parameters.Rfc4115Parameters.{Rfc4115Parameters}

-- each bucket holds no more than its own size (RFC 4115)
pub record IsWithinSizes (m : State Rfc4115Parameters Levels) : Type 0 where
  pub committed : m.levels.committed ≤ m.parameters.committed_burst
  pub excess : m.levels.excess ≤ m.parameters.excess_burst
