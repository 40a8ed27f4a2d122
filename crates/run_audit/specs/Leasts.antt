-- Of what is found at numbers, that at the least.
use Rattle.std.specs.Prelude.{ℕ, nat_le, option_map, Option, None, Some, if◌then◌else◌}

-- what was found so far, if anything, behind its number, and what is found at a number
abbrev pub lesser : {B : Type 0} → Option (ℕ × B) → ℕ → Option B → Option (ℕ × B)
lesser least number None = least
lesser None number (Some found) = Some (number, found)
lesser (Some entry) number (Some found) = if nat_le entry.0 number then Some entry else Some (number, found)

-- without the number
abbrev pub told : {B : Type 0} → Option (ℕ × B) → Option B
told least = option_map (λ entry. entry.1) least
