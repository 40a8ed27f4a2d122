use Rattle.std.proofs.Common.{arith}
use Rattle.ds_runs.specs.KeptConductors.{stage_of}
use Rattle.ds_runs.proofs.OnTheWayLaws.{run_under_way, whole_under_way}
use Rattle.ds_runs.proofs.conductor.Conductor.finish.Goals as goal

pub journals_of-requires : goal.journals_of-requires
journals_of-requires c = record {
  numbered = omega (arith, c.self.invariant.under_way.count, c.self.invariant.numbered);
  whole = whole_under_way c.self.inside.accepted.now (stage_of c.self.inside) c.self.invariant.under_way;
}

pub of-requires : goal.of-requires
of-requires c =
    rw (c.in_ok-journals.ensures, c.in_ok-trails.ensures) (run_under_way c.self.inside.accepted.now (stage_of c.self.inside) c.self.invariant.under_way)
