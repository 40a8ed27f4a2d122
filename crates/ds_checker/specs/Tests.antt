-- Tests in order: each compares what is needed with what there is.
use Rattle.std.specs.Prelude.{ℕ, ◌≤◌, nat_le, List, [], ◌∷◌, Option, None, Some, if◌then◌else◌}
use Rattle.ds_checker.specs.declared.refusal.Refusal.{Refusal}

pub record Test : Type 0 where
  pub refused : ℕ → ℕ → Refusal
  pub needed : ℕ
  pub given : ℕ

-- what is needed is there
abbrev pub IsPassed : Test → Type 0
IsPassed t = t.needed ≤ t.given

-- the first test that fails, with its numbers
unfoldable pub first_failed : List Test → Option Refusal
first_failed [] = None
first_failed (t ∷ tests) = if nat_le t.needed t.given then first_failed tests else Some (t.refused t.needed t.given)
