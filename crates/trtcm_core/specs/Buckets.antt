-- What the buckets of a two-rate meter stand for.
use Rattle.moment_core.specs.Fillings.{filling_of}
use Rattle.moment_core.specs.Metering.{State}
use Rattle.trtcm_core.specs.declared.meter.Levels.{Levels}
use Rattle.trtcm_core.specs.declared.meter.TwoRate.{TwoRate}
use Rattle.trtcm_core.specs.declared.parameters.TrTcmParameters.{TrTcmParameters}

abbrev pub buckets_of : State TrTcmParameters Levels → TwoRate
buckets_of m = record {
  committed = filling_of m m.parameters.committed_rate m.parameters.committed_burst m.levels.committed;
  peak = filling_of m m.parameters.peak_rate m.parameters.peak_burst m.levels.peak;
}

abbrev pub parameters_of : TwoRate → TrTcmParameters
parameters_of b = record {
  committed_rate = b.committed.rate;
  committed_burst = b.committed.bucket.size;
  peak_rate = b.peak.rate;
  peak_burst = b.peak.bucket.size;
}

abbrev pub levels_of : TwoRate → Levels
levels_of b = record { committed = b.committed.bucket.level; peak = b.peak.bucket.level }
