use Rattle.std.proofs.Common.{◌≡◌, map, take}
use Rattle.ds_ledger_table.specs.Form.{column}
use Rattle.ds_ledger_table.proofs.form.has_columns.Given as goal

-- the columns so far are as they are wanted
abbrev pub invariant-loop-at : goal.invariant-loop-at
invariant-loop-at l = take l.at l.own ≡ map (λ c. column c.0.now c.1) (take l.at l.columns)
