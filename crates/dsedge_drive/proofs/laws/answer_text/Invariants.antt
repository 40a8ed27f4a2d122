use Rattle.std.proofs.Common.{◌≡◌, ◌+◌, ◌≤◌, ℕ, List, ◌++◌, length}
use Rattle.line_text.specs.Lines.{lines_of}
use Rattle.dsedge_lines.specs.Answers.{behind}
use Rattle.dsedge_drive.specs.Again.{HasAnswered}
use Rattle.dsedge_drive.specs.Opened.{answer_behind}
use Rattle.dsedge_drive.proofs.laws.answer_text.Given as goal

-- some lines are answered, and what is answered to all goes on with those that are left
abbrev pub invariant-loop-ended : goal.invariant-loop-ended
invariant-loop-ended g l =
    let s = l.initial.command in
    record {
      number : l.number + length l.rest ≤ 1 + length l.text;
      answered : (lines : List (List ℕ)) × (lines_of l.text ≡ lines ++ lines_of l.rest)
          × HasAnswered s.in_json (record { text = l.initial.out.items; offered = s.offered; book = s.book }) lines l.out.items l.command;
      answer : behind l.out.items (answer_behind l.command l.number (lines_of l.rest)) ≡ behind l.initial.out.items (answer_behind s 1 (lines_of l.text));
    }

abbrev pub decreases-loop-ended : goal.decreases-loop-ended
decreases-loop-ended g l = length l.rest
