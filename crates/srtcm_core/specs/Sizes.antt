-- The levels that a single-rate meter can have.
use Rattle.std.specs.Prelude.{◌≤◌}
use Rattle.moment_core.specs.declared.bucket.Levels.{Levels}
use Rattle.moment_core.specs.Metering.{State}
use Rattle.srtcm_core.specs.declared.parameters.SrTcmParameters.{SrTcmParameters}

-- each bucket holds no more than its own size (RFC 2697 section 3)
pub record IsWithinSizes (m : State SrTcmParameters Levels) : Type 0 where
  pub committed : m.levels.committed ≤ m.parameters.committed_burst
  pub excess : m.levels.excess ≤ m.parameters.excess_burst
