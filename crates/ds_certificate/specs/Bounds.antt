-- What the bounds of a certificate must meet, and the least ones that do (Cruz 1991, section II).
use Rattle.std.specs.Prelude.{◌≡◌, ℕ, suc, ◌+◌, ◌≤◌, Bool, IsTrue, ⊤, List, [], ◌∷◌, length, map, is_none}
use Rattle.std.specs.List.{AllZip}
use Rattle.moment_core.specs.Volume.{bytes_over}
use Rattle.ds_domain_base.specs.Domains.{Domain}
use Rattle.ds_domain_base.specs.Fitting.{way_fault}
use Rattle.ds_domain_base.specs.Routes.{Route, jitters_in}
use Rattle.ds_domain_base.specs.declared.contract.Contract.{Contract}
use Rattle.moment_core.specs.declared.column.Column.{Column}
use Rattle.ds_certificate.specs.Columns.{Bound, InEach, bytes_in, envelope_in, in_each}
use Rattle.ds_certificate.specs.Sources.{jitters_of, source_of}
use Rattle.ds_certificate.specs.declared.source.Source.{Source}

-- nothing stands against a contract's port and path
abbrev pub fits : Domain → Contract → Bool
fits d c = is_none (way_fault 0 d c.port c.path)

-- the shape: a contract that fits the domain has one bound more than its path has meters
abbrev pub HasShape : Domain → Contract → List Bound → Type 0
HasShape d c bounds = IsTrue (fits d c) × (length bounds ≡ suc (length c.path))

-- the first bound is no less than the burst that the traffic enters with
abbrev pub IsFirst : Column → Source → Bound → Type 0
IsFirst column s first = (envelope_in column s).burst ≤ bytes_in column first

-- behind each link a bound is no less than the one before it and what the rate gives over the link's jitter, rounded up
unfoldable pub Grows : Column → Source → List ℕ → Bound → List Bound → Type 0
Grows column s [] before bounds = ⊤
Grows column s (jitter ∷ jitters) before [] = ⊤
Grows column s (jitter ∷ jitters) before (bound ∷ bounds) =
    (bytes_in column before + bytes_over (envelope_in column s).rate jitter ≤ bytes_in column bound)
    × Grows column s jitters bound bounds

abbrev pub MeetsIn : Column → Source → List ℕ → List Bound → Type 0
MeetsIn column s jitters [] = ⊤
MeetsIn column s jitters (first ∷ bounds) = IsFirst column s first × Grows column s jitters first bounds

-- the first bound and those behind the links, in each column
abbrev pub Meets : Domain → Contract → List Bound → Type 0
Meets d c bounds = InEach (λ column. MeetsIn column (source_of d c) (jitters_of d c) bounds)

-- a certificate that says enough of each contract: what the meters make of it is left open
abbrev pub IsCertificate : Domain → List Contract → List (List Bound) → Type 0
IsCertificate d contracts certificate =
    AllZip (λ c bounds. HasShape d c bounds × Meets d c bounds) contracts certificate

-- no bound is above the other's, in no column
abbrev pub IsAtMost : Bound → Bound → Type 0
IsAtMost a b = InEach (λ column. bytes_in column a ≤ bytes_in column b)

abbrev pub AreAtMost : List (List Bound) → List (List Bound) → Type 0
AreAtMost rows others = AllZip (λ bounds more. AllZip IsAtMost bounds more) rows others

-- the least first bound, and the least bound behind a link of a jitter
abbrev pub entering : Source → Bound
entering s = in_each (λ column. (envelope_in column s).burst)

abbrev pub delayed : Source → ℕ → Bound → Bound
delayed s jitter before = in_each (λ column. bytes_in column before + bytes_over (envelope_in column s).rate jitter)

unfoldable pub least_behind : Source → List ℕ → Bound → List Bound
least_behind s [] before = []
least_behind s (jitter ∷ jitters) before = delayed s jitter before ∷ least_behind s jitters (delayed s jitter before)

abbrev pub least_along : Source → List ℕ → List Bound
least_along s jitters = entering s ∷ least_behind s jitters (entering s)

-- the least bounds along a route, of traffic that keeps a source
abbrev pub least_on : Source → Route → List Bound
least_on s route = least_along s (jitters_in route.legs)

-- the least bounds of a contract, and the least certificate
abbrev pub least_of : Domain → Contract → List Bound
least_of d c = least_along (source_of d c) (jitters_of d c)

abbrev pub least : Domain → List Contract → List (List Bound)
least d contracts = map (least_of d) contracts
