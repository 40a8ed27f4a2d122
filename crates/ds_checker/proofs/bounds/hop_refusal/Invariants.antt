use Rattle.std.proofs.Common.{◌≡◌, drop, map}
use Rattle.moment_core.specs.Columns.{each_column}
use Rattle.ds_checker.specs.BoundTests.{hop_test}
use Rattle.ds_checker.specs.Tests.{first_failed}
use Rattle.ds_checker.proofs.bounds.hop_refusal.Given as goal

-- what is left is as the whole
abbrev pub invariant-loop-column : goal.invariant-loop-column
invariant-loop-column l =
    first_failed (map (hop_test l.number l.hop l.source l.jitter l.before l.bound) (drop l.column-index each_column)) ≡ first_failed (map (hop_test l.number l.hop l.source l.jitter l.before l.bound) each_column)
