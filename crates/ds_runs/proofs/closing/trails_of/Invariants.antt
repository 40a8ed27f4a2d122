use Rattle.std.proofs.Common.{◌≡◌, ◌++◌, map}
use Rattle.indexmap.specs.IndexMap.{values}
use Rattle.run_audit.specs.Assembled as assembled
use Rattle.ds_runs.specs.Conducting.{passage_of}
use Rattle.ds_runs.proofs.closing.trails_of.Given as goal

-- what is handed over, and then what is left, is all
abbrev pub invariant-loop-traveller : goal.invariant-loop-traveller
invariant-loop-traveller l =
    map assembled.passage_of l.trails.items ++ map passage_of l.traveller-iterator ≡ map passage_of (values l.fn.travellers)
