-- How far a command has come in the lines of its input.
use Rattle.std.specs.Prelude.{◌≡◌, ℕ, List, ◌++◌, Option, None, Some, Result, Ok, Err}
use Rattle.dsedge_lines.specs.declared.command.Ending.{Ending}

-- a call keeps a command on every course that it is on: it stood behind this text with these lines left, and stands
-- behind that text with those left, or has stopped
abbrev pub StaysOn : {C : Type 0} → (C → List (List ℕ) → Option (List (List ℕ)) → List ℕ → C → Type 0)
    → C → List ℕ → Option (List (List ℕ)) → C → List ℕ → Option (List (List ℕ)) → Type 0
StaysOn {C} stands old text left new written later = (start : C) (whole : List (List ℕ)) (front : List ℕ)
    → stands start whole left (front ++ text) old → stands start whole later (front ++ written) new

-- the lines that are left behind a call that answers one, where these come later
abbrev pub left_by : {E : Type 0} → Result (Option Ending) E → List (List ℕ) → Option (List (List ℕ))
left_by (Ok None) later = Some later
left_by (Ok (Some ending)) later = None
left_by (Err e) later = None

-- the same where a rest of the input is left, unless the answer ended
abbrev pub left_behind : {R : Type 0} → Option Ending → R → (R → List (List ℕ)) → Option (List (List ℕ))
left_behind None rest lines = Some (lines rest)
left_behind (Some ending) rest lines = None

-- the same behind a call that may answer a line, and then gives the rest
abbrev pub left_front : {R E : Type 0} → Result (Option (Option Ending × R)) E → List (List ℕ) → (R → List (List ℕ))
    → Option (List (List ℕ))
left_front (Ok None) same lines = Some same
left_front (Ok (Some parts)) same lines = left_behind parts.0 parts.1 lines
left_front (Err e) same lines = None

-- a text is handed over behind what was held, or a front of it
pub record IsHandedOver (Holds : List ℕ → Type 0) (before after : List ℕ) : Type 0 where
  pub text : List ℕ
  pub holds : Holds text
  pub front : List ℕ
  pub more : List ℕ
  pub whole : text ≡ front ++ more
  pub given : after ≡ before ++ front
