-- What journals and trails say together.
use Rattle.std.specs.Prelude.{List, map}
use Rattle.meter_book.specs.Replay.{Journal}
use Rattle.meter_fabric_base.specs.Grounds.{Ground}
use Rattle.meter_fabric_base.specs.Trails.{packet_of}
use Rattle.meter_fabric_base.specs.declared.trail.Trail.{Trail}
use Rattle.run_audit.specs.Runs.{Passage, Run}

-- the packet of a trail, with its receipts
abbrev pub passage_of : Trail → Passage
passage_of trail = record { packet = packet_of trail; receipts = trail.receipts.items }

abbrev pub run_of : List Journal → List Trail → Run
run_of journals trails = record { journals = journals; passages = map passage_of trails }

-- a run, and the ground that it stands on
pub record GroundRun : Type 0 where
  pub basis : Ground
  pub run : Run
