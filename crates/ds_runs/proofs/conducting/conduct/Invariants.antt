use Rattle.std.proofs.Common.{◌≡◌, drop}
use Rattle.ds_runs.specs.Conducting.{conducted_from}
use Rattle.ds_runs.specs.Steps.{opened}
use Rattle.ds_runs.proofs.conducting.conduct.Given as goal

-- what comes of the steps that are left is what comes of all
abbrev pub invariant-loop-index : goal.invariant-loop-index
invariant-loop-index l = record {
  table : l.conductor.table ≡ l.accepted;
  value : conducted_from l.accepted l.conductor.stage l.index (drop l.index l.steps) ≡ conducted_from l.accepted (opened l.accepted) 0 l.steps;
}
