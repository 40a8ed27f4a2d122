use Rattle.std.proofs.Common.{◌≡◌, drop}
use Rattle.moment_core.specs.Columns.{each_column}
use Rattle.run_audit.specs.Verdicts.{first_found}
use Rattle.ds_runs.specs.Judging.{told_in}
use Rattle.ds_runs.proofs.sender.Buckets.told.Given as goal

-- what is left is as the whole
abbrev pub invariant-loop-column : goal.invariant-loop-column
invariant-loop-column l = first_found (told_in l.flow l.self) (drop l.column-index each_column) ≡ first_found (told_in l.flow l.self) each_column
