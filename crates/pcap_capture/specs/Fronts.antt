-- What a device took of a text.
use Rattle.std.specs.Prelude.{◌≡◌, ℕ, List, ◌++◌}

-- what stood, with a front of a text behind it
abbrev pub IsFrontOf : List ℕ → List ℕ → List ℕ → Type 0
IsFrontOf before text after = (front : List ℕ) × (more : List ℕ) × (text ≡ front ++ more) × (after ≡ before ++ front)
