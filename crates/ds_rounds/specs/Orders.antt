-- Orders in which visits may be made.
use Rattle.std.specs.Prelude.{◌≡◌, ℕ, ◌≤◌, List, [], ◌∷◌, take, drop, map, filter, nat_eq, AllPairs, IsPermutation}
use Rattle.ds_rounds.specs.declared.visit.Visit.{Visit}

-- the moments of visits do not fall
abbrev pub DoNotFall : List Visit → Type 0
DoNotFall visits = AllPairs (λ v w. v.moment ≤ w.moment) visits

-- rounds of these lengths stand one after the other, each with its own visits, in any order
unfoldable pub KeepsRounds : List ℕ → List Visit → List Visit → Type 0
KeepsRounds [] visits order = order ≡ []
KeepsRounds (count ∷ counts) visits order =
    IsPermutation (take count visits) (take count order) × KeepsRounds counts (drop count visits) (drop count order)

-- when visits come to a site, in their order
abbrev pub moments_at : ℕ → List Visit → List ℕ
moments_at site visits = map (λ v. v.moment) (filter (λ v. nat_eq v.hop.site site) visits)
