-- What is said behind what is told, where the words ask for it, or where it is read at a terminal.
use Rattle.std.specs.Prelude.{ℕ, Bool, not, ◌&&◌, ◌||◌, List, Option}
use Rattle.std.specs.List.{list_any}
use Rattle.dsedge_explained.specs.Asked.{asks}
use Rattle.dsedge_faults.specs.Advised.{IsAdvised}
use Rattle.dsedge_faults.specs.Faults.{IsTold}
use Rattle.dsedge_faults.specs.declared.advice.Advice.{Advice}
use Rattle.dsedge_saying.specs.Saying.{IsSaid}
use Rattle.dsedge_serve.specs.Started.{asks_json}

-- More is said at a terminal, and anywhere where the words ask for it.
abbrev pub is_asked : Bool → List (List ℕ) → Bool
is_asked at_terminal words = at_terminal || list_any asks words

-- Nothing is said of texts behind an object.
abbrev pub is_explained : Bool → List (List ℕ) → Bool
is_explained asked words = asked && not (asks_json words)

-- Words were said beside an answer, where they are; behind them a text was told, behind it what the texts of the files
-- say, and behind that the advice; both where that is asked for, and there alone.
pub record IsToldMore (spoken asked : Bool) (words : List (List ℕ)) (advice : Option Advice)
    (text before after : List ℕ) (failed now : ℕ) : Type 0 where
  pub behind_words : List ℕ
  pub words_failures : ℕ
  pub behind_line : List ℕ
  pub line_failures : ℕ
  pub behind_texts : List ℕ
  pub texts_failures : ℕ
  pub spoken_words : IsSaid spoken before behind_words failed words_failures
  pub told : IsTold text behind_words behind_line words_failures line_failures
  pub said : IsSaid (is_explained asked words) behind_line behind_texts line_failures texts_failures
  pub advised : IsAdvised asked words advice behind_texts after texts_failures now
