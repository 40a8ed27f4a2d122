use Rattle.std.proofs.Common.{◌≡◌, ℕ, ◌+◌, ◌≤◌, false, List, ◌++◌, length, Some}
use Rattle.line_text.specs.Lines.{has_byte}
use Rattle.dsedge_lines.specs.Courses.{StaysOn}
use Rattle.dsedge_lines.specs.Underway.{answer_with, lines_with}
use Rattle.dsedge_lines.proofs.progress.answer_piece.Given as goal

-- what is answered to the rest of the piece is what was answered to all of it
abbrev pub invariant-loop-ended : goal.invariant-loop-ended
invariant-loop-ended g l = record {
  carried : has_byte 10 l.progress.carry.items ≡ false;
  number : l.progress.number + length l.rest ≤ l.initial.progress.number + length l.piece;
  answer : (later : List ℕ) → answer_with (g.C.Command.answer l.command) l.progress (l.rest ++ later) ≡ answer_with (g.C.Command.answer l.initial.command) l.initial.progress (l.piece ++ later);
  stands : (later : List ℕ) → StaysOn g.C.Command.stands l.initial.command l.initial.progress.out.items (Some (lines_with l.initial.progress (l.piece ++ later)))
      l.command l.progress.out.items (Some (lines_with l.progress (l.rest ++ later)));
}

abbrev pub decreases-loop-ended : goal.decreases-loop-ended
decreases-loop-ended g l = length l.rest
