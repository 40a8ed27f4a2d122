-- The command that the tests run.
use Rattle.std.specs.Prelude.{ℕ, ◌+◌, ◌==◌, List, [], ◌∷◌, length, decimal, codes, if◌then◌else◌}
use Rattle.dsedge_lines.specs.declared.command.Ending.TheVariants.{Whole, BadLine}
use Rattle.dsedge_lines.specs.Answers.{Answer, behind}

-- `ok` to each line, and then the number of a line to come; an empty line is bad
abbrev pub sample_answer : ℕ → List (List ℕ) → Answer
sample_answer number [] = record { text = decimal number; ending = Whole }
sample_answer number (line ∷ lines) =
    if length line == 0 then
    record { text = []; ending = BadLine number }
    else
    behind (codes "ok ") (sample_answer (number + 1) lines)
