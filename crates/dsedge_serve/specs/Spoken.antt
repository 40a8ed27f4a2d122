-- What is said beside the answer to a plan, and what is told behind it.
use Rattle.std.specs.Prelude.{ℕ, Bool, false, not, ◌&&◌, List}
use Rattle.dsedge_base.specs.declared.work.Plan.{Plan}
use Rattle.dsedge_base.specs.declared.work.Plan.TheVariants.{Drive}
use Rattle.dsedge_json_faults.specs.FaultObjects.{IsToldBy}
use Rattle.dsedge_saying.specs.Saying.{IsSaid}
use Rattle.dsedge_serve.specs.Started.{Course}
use Rattle.dsedge_serve.specs.Started.Course.{Served}

-- Behind what a broker refuses words are said, where they are asked for, and not where objects are.
abbrev pub is_spoken : Bool → Plan → Bool
is_spoken asked (Drive domain limits book in_json) = asked && not in_json
is_spoken asked _ = false

abbrev pub is_spoken_in : Bool → Course → Bool
is_spoken_in asked (Served plan texts outcome) = is_spoken asked plan
is_spoken_in asked _ = false

-- Words were said beside an answer, where they are, and behind them a text that is so was told.
pub record IsToldBehind (spoken : Bool) (is : List ℕ → Type 0) (before after : List ℕ) (failed now : ℕ) : Type 0 where
  pub behind_words : List ℕ
  pub words_failures : ℕ
  pub said : IsSaid spoken before behind_words failed words_failures
  pub told : IsToldBy is behind_words after words_failures now
