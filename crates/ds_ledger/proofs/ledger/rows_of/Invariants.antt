use Rattle.std.proofs.Common.{◌≡◌, ◌++◌, All, drop, take}
use Rattle.ds_ledger_rows.specs.Sound.{IsSound}
use Rattle.ds_ledger_table.specs.Rows.{IsRow}
use Rattle.ds_ledger.specs.Kept.{end_after, rows_from}
use Rattle.ds_ledger.proofs.ledger.rows_of.Given as goal

-- the rows so far, and those of the commands that are left
abbrev pub invariant-loop-command : goal.invariant-loop-command
invariant-loop-command l = record {
  made : l.rows.items ++ rows_from l.next (drop l.command-index l.commands) ≡ rows_from l.fn.end l.commands;
  end : end_after l.next (drop l.command-index l.commands) ≡ end_after l.fn.end l.commands;
  fits : All IsRow l.rows.items;
  sound : All IsSound (take l.command-index l.commands);
}
