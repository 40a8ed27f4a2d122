-- The rule of a desk's log, and what its steps tell.
use Rattle.std.specs.Prelude.{ℕ, ◌≡◌, ◌==◌, ◌-◌, ◌<◌, true, List, [], ◌∷◌, ◌++◌, length, slice_get, Some, MatchBool}
use Rattle.logbook.specs.Pages.{Cell, Step, View, Book, Named}
use Rattle.ds_desk.specs.declared.log.Act.{Act}
use Rattle.ds_desk.specs.declared.log.Act.TheVariants.{Kept}

-- The first word is the length of the log. A book has two words, of which this one leaves the second at 0.
pub record IsCounted (cells : List Cell) (log : List Act) : Type 0 where
  pub words : cells ≡ (length log, true) ∷ (0, true) ∷ []

-- so many acts end with one that keeps, if they are any
abbrev pub IsKeptAt : ℕ → List Act → Type 0
IsKeptAt n log = 0 < n → slice_get log (n - 1) ≡ Some Kept

abbrev pub head_of : Book → Named
head_of b = record { tracked = true; key = 0; book = b }

-- the act was added to all that had been seen; or the log was longer
abbrev pub Adds : Step Act → View Act ℕ → ℕ → View Act ℕ → Type 0
Adds s v found w = MatchBool (found == s.old) (w.0 ≡ v.0 ++ s.ask ∷ []) (length w.0 ≡ found)
