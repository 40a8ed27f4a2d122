use Rattle.std.proofs.Common.{◌≡◌, drop, map}
use Rattle.moment_core.specs.Columns.{each_column}
use Rattle.ds_checker.specs.BoundTests.{first_test}
use Rattle.ds_checker.specs.Tests.{first_failed}
use Rattle.ds_checker.proofs.bounds.first_refusal.Given as goal

-- what is left is as the whole
abbrev pub invariant-loop-column : goal.invariant-loop-column
invariant-loop-column l =
    first_failed (map (first_test l.number l.source l.first) (drop l.column-index each_column)) ≡ first_failed (map (first_test l.number l.source l.first) each_column)
