-- Rounds of visits, each as long as the rule of a round allows.
use Rattle.std.specs.Prelude.{◌≡◌, ℕ, ◌+◌, ◌^◌, ◌<◌, ◌≤◌, ⊤, false, List, [], ◌∷◌, length, take, drop, nat_eq, All, AllPairs}
use Rattle.std.specs.List.{list_any}
use Rattle.ds_rounds.specs.declared.visit.Visit.{Visit}

-- how many visits a round has at most
abbrev pub most_visits : ℕ
most_visits = 2 ^ 20

-- no moment exceeds the first by more than the skew
abbrev pub IsWithin : ℕ → List Visit → Type 0
IsWithin skew [] = ⊤
IsWithin skew (first ∷ others) = All (λ v. v.moment ≤ first.moment + skew) others

-- A round: no moment exceeds its first by more than the skew, no packet stands twice in it, and it has no more visits
-- than a round may have.
pub record IsRound (skew : ℕ) (visits : List Visit) : Type 0 where
  pub within : IsWithin skew visits
  pub once : AllPairs (λ v w. ¬ (v.packet ≡ w.packet)) visits
  pub short : length visits ≤ most_visits

-- The first round of visits has so many: they are a round, and with the next one they would be none.
pub record IsFirstRound (skew : ℕ) (visits : List Visit) (count : ℕ) : Type 0 where
  pub some : 0 < count
  pub there : count ≤ length visits
  pub round : IsRound skew (take count visits)
  pub whole : count < length visits → ¬ IsRound skew (take (count + 1) visits)

-- the lengths of the rounds of visits, one after the other
unfoldable pub AreRounds : ℕ → List Visit → List ℕ → Type 0
AreRounds skew visits [] = visits ≡ []
AreRounds skew visits (count ∷ counts) = IsFirstRound skew visits count × AreRounds skew (drop count visits) counts

-- a round of these packets, which begins at a moment, goes on with a visit
abbrev pub GoesOn : ℕ → ℕ → List ℕ → Visit → Type 0
GoesOn skew first packets v =
    (v.moment ≤ first + skew) × (length packets < most_visits) × (list_any (nat_eq v.packet) packets ≡ false)
