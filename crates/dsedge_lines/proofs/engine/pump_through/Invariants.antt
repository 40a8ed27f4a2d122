use Rattle.std.proofs.Common.{◌≡◌, ℕ, ◌+◌, ◌*◌, ◌^◌, ◌≤◌, false, List, [], ◌++◌, Some, vec_len}
use Rattle.line_text.specs.Lines.{lines_of, has_byte}
use Rattle.dsedge_lines.specs.Answers.{behind}
use Rattle.dsedge_lines.specs.Courses.{StaysOn}
use Rattle.dsedge_lines.specs.Underway.{answer_with, lines_with}
use Rattle.dsedge_lines.proofs.engine.pump_through.Given as goal

-- what is written so far, and then the answer to what is left, is the answer to all
abbrev pub invariant-loop-command : goal.invariant-loop-command
invariant-loop-command g l = record {
  room : vec_len l.piece ≡ 65536;
  number : l.progress.number + 65536 * g.I.Intake.calls l.intake ≤ 1 + 65536 * 2 ^ 32;
  carried : has_byte 10 l.progress.carry.items ≡ false;
  told : g.I.Intake.tells l.initial.intake → g.I.Intake.tells l.intake;
  told_outlet : g.O.Outlet.tells l.initial.outlet → g.O.Outlet.tells l.outlet;
  failed : g.I.Intake.failed l.intake ≡ g.I.Intake.failed l.initial.intake;
  failed_outlet : g.O.Outlet.failed l.outlet ≡ g.O.Outlet.failed l.initial.outlet;
  answer : g.I.Intake.tells l.initial.intake → g.O.Outlet.tells l.initial.outlet → (written : List ℕ)
      × (g.O.Outlet.held l.outlet ≡ g.O.Outlet.held l.initial.outlet ++ written)
      × (behind written (answer_with (g.C.Command.answer l.command) l.progress (g.I.Intake.left l.intake)) ≡ g.C.Command.answer l.initial.command 1 (lines_of (g.I.Intake.left l.initial.intake)))
      × StaysOn g.C.Command.stands l.initial.command [] (Some (lines_of (g.I.Intake.left l.initial.intake)))
      l.command (written ++ l.progress.out.items) (Some (lines_with l.progress (g.I.Intake.left l.intake)));
}

abbrev pub decreases-loop-command : goal.decreases-loop-command
decreases-loop-command g l = g.I.Intake.calls l.intake
