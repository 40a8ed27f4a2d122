use Rattle.std.proofs.Common.{◌≡◌, ℕ, ◌<◌, get_or, length}
use Rattle.sqlite_value.specs.declared.value.ValueRef.TheVariants as lent
use Rattle.sqlite.specs.Order.{column}
use Rattle.sqlite.specs.Value.{owned}
use Rattle.ds_ledger_table.proofs.writing.values.Given as goal

-- the values so far are the cells of the row
abbrev pub invariant-loop-at : goal.invariant-loop-at
invariant-loop-at l = record {
  long : length l.values ≡ 28;
  own : (k : ℕ) → k < l.at → owned (get_or l.values k lent.Null) ≡ column l.row k;
}
