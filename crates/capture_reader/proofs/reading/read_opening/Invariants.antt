use Rattle.std.proofs.Common.{◌≡◌, ◌≤◌, [], List, ℕ}
use Rattle.capture_reader.specs.Readings.{IsUnderway}
use Rattle.capture_reader.proofs.reading.read_opening.Given as goal

-- what was read is underway, and no call failed
abbrev pub invariant-loop-progress : goal.invariant-loop-progress
invariant-loop-progress g l = record {
  missing : l.progress.missing ≤ l.initial.progress.missing;
  told : g.I.Intake.tells l.initial.intake → g.I.Intake.tells l.intake;
  unfailed : g.I.Intake.failed l.intake ≡ g.I.Intake.failed l.initial.intake;
  read : (bytes : List ℕ) → g.I.Intake.tells l.initial.intake → IsUnderway [] bytes (g.I.Intake.left l.initial.intake) l.initial.progress
      → IsUnderway [] bytes (g.I.Intake.left l.intake) l.progress;
}

abbrev pub decreases-loop-progress : goal.decreases-loop-progress
decreases-loop-progress g l = g.I.Intake.calls l.intake
