use Rattle.std.proofs.Common.{map, take}
use Rattle.meter_book.specs.Replay.{journal_rows}
use Rattle.run_audit.specs.Verdicts.{first_found, late_row}
use Rattle.run_audit.proofs.LeastLaws.{IsLeast}
use Rattle.run_audit.proofs.skews.first_late.Given as goal

-- what was found against the journals so far
abbrev pub invariant-loop-journal : goal.invariant-loop-journal
invariant-loop-journal l =
    IsLeast (λ j. j.site) (λ j. first_found (late_row j) (journal_rows j)) (map (λ j. j) (take l.journal-index l.journals)) l.least
