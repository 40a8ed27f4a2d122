-- The levels that a two-rate meter can have.
use Rattle.std.specs.Prelude.{◌≤◌}
use Rattle.moment_core.specs.Metering.{State}
use Rattle.trtcm_core.specs.declared.meter.Levels.{Levels}
use Rattle.trtcm_core.specs.declared.parameters.TrTcmParameters.{TrTcmParameters}

-- each bucket holds no more than its own size (RFC 2698 section 3)
pub record IsWithinSizes (m : State TrTcmParameters Levels) : Type 0 where
  pub committed : m.levels.committed ≤ m.parameters.committed_burst
  pub peak : m.levels.peak ≤ m.parameters.peak_burst
