use Rattle.std.proofs.Common.{◌≡◌, drop}
use Rattle.meter_book.specs.Replay.{journal_rows}
use Rattle.run_audit.specs.Verdicts.{first_found, late_row}
use Rattle.run_audit.proofs.skews.late_in.Given as goal

-- what is left is as the whole
abbrev pub invariant-loop-place : goal.invariant-loop-place
invariant-loop-place l = first_found (late_row l.journal) (drop l.place (journal_rows l.journal)) ≡ first_found (late_row l.journal) (journal_rows l.journal)
