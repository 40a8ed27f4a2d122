-- The first of some refusals by their places.
use Rattle.std.specs.Prelude.{ℕ, nat_lt, option_map, Option, None, Some, if◌then◌else◌}
use Rattle.ds_checker.specs.declared.refusal.Refusal.{Refusal}

-- the one at the lower place
abbrev pub earlier : Option (ℕ × Refusal) → Option (ℕ × Refusal) → Option (ℕ × Refusal)
earlier None other = other
earlier (Some first) None = Some first
earlier (Some first) (Some other) = if nat_lt other.0 first.0 then Some other else Some first

-- a refusal at a place, if there is one
abbrev pub at_place : ℕ → Option Refusal → Option (ℕ × Refusal)
at_place place refusal = option_map (λ r. (place, r)) refusal
