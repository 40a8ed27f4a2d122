-- The order in which a recorder writes sized moments down.
use Rattle.std.specs.Prelude.{ℕ, List}
use Rattle.std.specs.List.Sorted.{IsNonDecreasingBy}

-- no sized moment is earlier than one before it
abbrev pub IsInOrder : List (ℕ × ℕ) → Type 0
IsInOrder items = IsNonDecreasingBy (λ item. item.0) items
