use Rattle.std.proofs.Common.{◌≡◌, false, ◌++◌, length}
use Rattle.line_text.specs.Lines.{has_byte}
use Rattle.dsedge_lines.proofs.words.read_line.Given as goal

-- what came so far has no LF, and what is left stands behind it
abbrev pub invariant-loop-turn : goal.invariant-loop-turn
invariant-loop-turn g l = record {
  told : g.I.Intake.tells l.initial.intake → g.I.Intake.tells l.intake;
  failed : g.I.Intake.failed l.intake ≡ g.I.Intake.failed l.initial.intake;
  unbroken : has_byte 10 l.line.items ≡ false;
  size : length l.line.items ≡ l._turn;
  left : g.I.Intake.tells l.initial.intake → g.I.Intake.left l.initial.intake ≡ l.line.items ++ g.I.Intake.left l.intake;
}
