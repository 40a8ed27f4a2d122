-- When a contract may send.
use Rattle.std.specs.Prelude.{ℕ, ◌≤◌, Option}
use Rattle.std.specs.Option.{ForSome}

-- from a moment on, until another that is not included, if there is one
pub record Span : Type 0 where
  pub since : ℕ
  pub until : Option ℕ

-- the end is not below the beginning
abbrev pub IsInOrder : ℕ → Option ℕ → Type 0
IsInOrder since until = ForSome until (λ last. since ≤ last)
