-- What comes of the bytes that are still to come, from where a command stands.
use Rattle.std.specs.Prelude.{◌≡◌, ℕ, List, [], ◌++◌}
use Rattle.line_text.specs.Lines.{lines_of}
use Rattle.dsedge_lines.specs.Answers.{Answer, behind}
use Rattle.dsedge_lines.specs.declared.progress.Progress.{Progress}

-- the lines of what is carried over and of these bytes
abbrev pub lines_with : Progress → List ℕ → List (List ℕ)
lines_with progress bytes = lines_of (progress.carry.items ++ bytes)

-- behind what is answered and not yet handed over, the answer to the lines of what is carried over and of these bytes
abbrev pub answer_with : (ℕ → List (List ℕ) → Answer) → Progress → List ℕ → Answer
answer_with answer progress bytes =
    behind progress.out.items (answer progress.number (lines_with progress bytes))

-- nothing is answered so far
pub record IsFresh (progress : Progress) : Type 0 where
  pub number : progress.number ≡ 1
  pub carry : progress.carry.items ≡ []
  pub out : progress.out.items ≡ []
