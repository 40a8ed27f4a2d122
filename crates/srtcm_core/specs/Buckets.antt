-- What the buckets of a single-rate meter stand for.
use Rattle.moment_core.specs.declared.bucket.Levels.{Levels}
use Rattle.moment_core.specs.Fillings.{filling_of}
use Rattle.moment_core.specs.Metering.{State}
use Rattle.srtcm_core.specs.declared.meter.SingleRate.{SingleRate}
use Rattle.srtcm_core.specs.declared.parameters.SrTcmParameters.{SrTcmParameters}

abbrev pub buckets_of : State SrTcmParameters Levels → SingleRate
buckets_of m = record {
  committed = filling_of m m.parameters.committed_rate m.parameters.committed_burst m.levels.committed;
  excess = record { level = m.levels.excess; size = m.parameters.excess_burst };
}

abbrev pub parameters_of : SingleRate → SrTcmParameters
parameters_of b = record {
  committed_rate = b.committed.rate;
  committed_burst = b.committed.bucket.size;
  excess_burst = b.excess.size;
}

abbrev pub levels_of : SingleRate → Levels
levels_of b = record { committed = b.committed.bucket.level; excess = b.excess.level }
