use Rattle.std.proofs.Common.{◌≡◌, ◌++◌, replicate}
use Rattle.sqlite_value.specs.declared.value.Value.TheVariants.{Null}
use Rattle.ds_ledger_rows.proofs.writing.push_nulls.Given as goal

abbrev pub invariant-loop : goal.invariant-loop
invariant-loop l = l.row ≡ l.initial.row ++ replicate l.counter Null
