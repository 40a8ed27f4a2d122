use Rattle.std.proofs.Common.{◌≡◌, drop, map}
use Rattle.moment_core.specs.Columns.{each_column}
use Rattle.run_audit.specs.Assembled.{passage_of}
use Rattle.run_audit.specs.Spills.{spilled_in}
use Rattle.run_audit.specs.Verdicts.{first_found}
use Rattle.run_audit.proofs.sources.first_spilled_in.Given as goal

-- what is left is as the whole
abbrev pub invariant-loop-column : goal.invariant-loop-column
invariant-loop-column l =
    let find = spilled_in l.source l.contract (map (λ trail. passage_of trail.now) l.own) in
    first_found find (drop l.column-index each_column) ≡ first_found find each_column
