-- What the buckets of a meter with two separate rates stand for.
use Rattle.moment_core.specs.declared.bucket.Levels.{Levels}
use Rattle.moment_core.specs.Fillings.{filling_of}
use Rattle.moment_core.specs.Metering.{State}
use Rattle.rfc4115_core.specs.declared.meter.SeparateRates.{SeparateRates}
use Rattle.rfc4115_core.specs.declared.parameters.Rfc4115Parameters.{Rfc4115Parameters}

abbrev pub buckets_of : State Rfc4115Parameters Levels → SeparateRates
buckets_of m = record {
  committed = filling_of m m.parameters.committed_rate m.parameters.committed_burst m.levels.committed;
  excess = filling_of m m.parameters.excess_rate m.parameters.excess_burst m.levels.excess;
}

abbrev pub parameters_of : SeparateRates → Rfc4115Parameters
parameters_of b = record {
  committed_rate = b.committed.rate;
  committed_burst = b.committed.bucket.size;
  excess_rate = b.excess.rate;
  excess_burst = b.excess.bucket.size;
}

abbrev pub levels_of : SeparateRates → Levels
levels_of b = record { committed = b.committed.bucket.level; excess = b.excess.bucket.level }
