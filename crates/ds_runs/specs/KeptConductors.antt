-- What the fields of a conductor stand for, and what they keep.
use Rattle.std.specs.Prelude.{◌≡◌, ◌≤◌, ◌^◌}
use Rattle.indexmap.specs.IndexMap.{keys, values}
use Rattle.ds_checker.specs.Acceptance.{Table}
use Rattle.meter_fabric_base.specs.Grounds.{ground_of}
use Rattle.meter_fabric_base.specs.Openings.{site_count}
use Rattle.ds_runs.specs.Steps.{Stage, numbers_of}
use Rattle.ds_runs.specs.OnTheWay.{IsUnderWay}
use Rattle.ds_runs.specs.declared.conductor.Conductor.TheInside as conductors

-- what the steps have made so far, and the table that it is of
pub record Conduct : Type 0 where
  pub table : Table
  pub stage : Stage

abbrev pub stage_of : conductors.Inside → Stage
stage_of c = record { travellers = values c.travellers; books = c.books.items }

abbrev pub conduct_of : conductors.Inside → Conduct
conduct_of c = record { table = c.accepted.now; stage = stage_of c }

-- the packets are on the ways of their contracts, which are those of the table, each is kept by its number, and the
-- numbers of sites have 32 bits
pub record IsConductor (c : conductors.Inside) : Type 0 where
  pub ways : c.ways ≡ ground_of c.accepted.now
  pub under_way : IsUnderWay c.accepted.now (stage_of c)
  pub numbers : keys c.travellers ≡ numbers_of (values c.travellers)
  pub numbered : site_count c.accepted.now ≤ 2 ^ 32
