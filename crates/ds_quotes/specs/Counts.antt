-- How many contracts like one fit beside a table.
use Rattle.std.specs.Prelude.{◌≡◌, ◌↔◌, ℕ, ◌+◌, ◌-◌, ◌*◌, ◌≤◌, Bool, ◌&&◌, nat_le, List, [], ◌∷◌, ◌++◌, length, replicate, slice_get, is_none, unwrap_or, Option, None, Some}
use Rattle.std.specs.List.{AllByRecursion, list_all}
use Rattle.ds_domain_base.specs.Limits.{green_limit}
use Rattle.ds_domain_base.specs.declared.contract.Contract.{Contract}
use Rattle.ds_domain_base.specs.declared.parts.Meter.{Meter}
use Rattle.ds_domain_base.specs.declared.route.Leg.{Leg}
use Rattle.ds_certificate.specs.Bounds.{least}
use Rattle.ds_checker.specs.Acceptance.{IsAcceptable, Table, refusal_of}
use Rattle.ds_checker.specs.declared.headroom.Growth.{Growth}
use Rattle.ds_checker.specs.declared.headroom.Utilization.{Utilization}
use Rattle.ds_quotes.specs.Quotes.{greatest_below, value_limit}

-- A contract is like one whose packets enter at the same port and pass the same meters on the same terms. Its name, its
-- rule, its class and its lifetime are its own.
pub record IsLike (c other : Contract) : Type 0 where
  pub port : other.port ≡ c.port
  pub path : other.path ≡ c.path
  pub terms : other.terms ≡ c.terms

-- a table with contracts more, behind the others, each with its least bounds
abbrev pub with_each : Table → List Contract → Table
with_each t others =
    record t { contracts = t.contracts ++ others; certificate = t.certificate ++ least t.domain others }

-- So many contracts like one fit beside a table at most: with contracts like it, whichever they are, the table is
-- acceptable exactly where they are no more.
abbrev pub IsCount : Table → Contract → ℕ → Type 0
IsCount t c most = (others : List Contract) → AllByRecursion (IsLike c) others
    → (IsAcceptable (with_each t others) ↔ (length others ≤ most))

-- Room is left where so many contracts come behind a first one, of which each takes as much more as the second.
abbrev pub has_room : ℕ → Utilization → Utilization → Bool
has_room more one two = nat_le (one.taken + more * (two.taken - one.taken)) one.available

-- in each of a meter's four tests
abbrev pub grows_within : ℕ → Growth → Bool
grows_within more g =
    has_room more g.one.green_rate g.two.green_rate && (has_room more g.one.green_burst g.two.green_burst
    && (has_room more g.one.all_rate g.two.all_rate && has_room more g.one.all_burst g.two.all_burst))

-- and at each meter
abbrev pub all_grow_within : ℕ → List Growth → Bool
all_grow_within more growths = list_all (grows_within more) growths

-- the rate of green packets of a meter, if it is told, and of the first one that legs lead to; 0 where there is none
abbrev pub rate_by : Option (List ℕ × Meter) → ℕ
rate_by None = 0
rate_by (Some entry) = (green_limit entry.1.parameters).rate

abbrev pub first_rate_of : List (List ℕ × Meter) → List Leg → ℕ
first_rate_of meters [] = 0
first_rate_of meters (leg ∷ legs) = rate_by (slice_get meters leg.place)

-- the number of contracts like one that fit beside a table
abbrev pub is_carried : Table → Contract → ℕ → Bool
is_carried t c number = is_none (refusal_of (with_each t (replicate number c)))

abbrev pub count_of : Table → Contract → ℕ
count_of t c = unwrap_or (greatest_below (is_carried t c) value_limit) 0
