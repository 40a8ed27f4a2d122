use Rattle.std.proofs.Common.{◌≡◌, ◌-◌, ◌<◌, ◌++◌, length, vec_len}
use Rattle.dsedge_texts.proofs.whole.read_whole.Given as goal

-- what came so far, and what is left behind it
abbrev pub invariant-loop-intake : goal.invariant-loop-intake
invariant-loop-intake g l = record {
  room : 0 < vec_len l.piece;
  told : g.I.Intake.tells l.initial.intake → g.I.Intake.tells l.intake;
  failed : g.I.Intake.failed l.intake ≡ g.I.Intake.failed l.initial.intake;
  left : g.I.Intake.tells l.initial.intake → g.I.Intake.left l.initial.intake ≡ l.bytes.items ++ g.I.Intake.left l.intake;
}

abbrev pub decreases-loop-intake : goal.decreases-loop-intake
decreases-loop-intake g l = 16777217 - length l.bytes.items
