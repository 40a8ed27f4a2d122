use Rattle.std.proofs.Common.{◌≡◌, ◌++◌, All, drop, take}
use Rattle.ds_ledger_rows.specs.Cells.{path_text}
use Rattle.ds_ledger_rows.specs.Sound.{HasNoSlash}
use Rattle.ds_ledger_rows.proofs.writing.path_text.Given as goal

-- the names so far, and those of the meters that are left
abbrev pub invariant-loop-meter : goal.invariant-loop-meter
invariant-loop-meter l = record {
  written : l.text.items ++ path_text (drop l.meter-index l.meters) ≡ path_text l.meters;
  sound : All HasNoSlash (take l.meter-index l.meters);
}
