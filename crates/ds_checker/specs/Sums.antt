-- What is added up for each meter, share by share.
use Rattle.std.specs.Prelude.{◌≡◌, ℕ, Bool, true, false, ⊤, ◌+◌, ◌-◌, ◌^◌, ◌≤◌, nat_eq, List, [], ◌∷◌, ◌++◌, fold, map, length, option_map, option_to_list, Option, if◌then◌else◌}
use Rattle.std.specs.List.{AllByRecursion}
use Rattle.moment_core.specs.declared.column.Column.TheVariants.{Green, All, Excess}
use Rattle.envelope_core.specs.Curve.{Curve, widened}
use Rattle.ds_domain_base.specs.Parameters.{Parameters}
use Rattle.ds_domain_base.specs.Routes.{Route, route_of}
use Rattle.ds_domain_base.specs.Parameters.TheVariants.{SrTcm, TrTcm, Rfc4115}
use Rattle.ds_domain_base.specs.declared.parts.Meter.{Meter}
use Rattle.ds_certificate.specs.Columns.{Bound, IsInRange}
use Rattle.ds_certificate.specs.Ranges.{IsModerate}
use Rattle.ds_certificate.specs.declared.source.Source.{Source}
use Rattle.ds_checker.specs.Acceptance.{IsAcceptable, Table}
use Rattle.ds_checker.specs.Loads.{Share, kept, shares_at}
use Rattle.ds_checker.specs.TableTests.{load_tests}
use Rattle.ds_checker.specs.Tests.{Test}
use Rattle.ds_checker.specs.declared.load.Loads.{Loads}

abbrev pub nothing : Curve
nothing = record { rate = 0; burst = 0 }

abbrev pub plus : Curve → Curve → Curve
plus curve more = record { rate = curve.rate + more.rate; burst = curve.burst + more.burst }

abbrev pub less : Curve → Curve → Curve
less curve part = record { rate = curve.rate - part.rate; burst = curve.burst - part.burst }

-- before the first share
abbrev pub no_loads : ℕ → Loads
no_loads skew = record { skew = skew; green = nothing; all = nothing; peaked = nothing; peaked_number = 0 }

-- with a share, whose yellow packets count apart where it may send some
abbrev pub with_share : Loads → Share → Loads
with_share loads share = record {
  skew = loads.skew;
  green = plus loads.green (widened loads.skew (kept Green share));
  all = plus loads.all (widened loads.skew (kept All share));
  peaked = if share.has_peak then plus loads.peaked (widened loads.skew (kept Excess share)) else loads.peaked;
  peaked_number = if share.has_peak then loads.peaked_number + 1 else loads.peaked_number;
}

-- and without one that is counted
abbrev pub without_share : Loads → Share → Loads
without_share loads share = record {
  skew = loads.skew;
  green = less loads.green (widened loads.skew (kept Green share));
  all = less loads.all (widened loads.skew (kept All share));
  peaked = if share.has_peak then less loads.peaked (widened loads.skew (kept Excess share)) else loads.peaked;
  peaked_number = if share.has_peak then loads.peaked_number - 1 else loads.peaked_number;
}

-- a part is in a sum
abbrev pub IsPart : Curve → Curve → Type 0
IsPart part curve = (part.rate ≤ curve.rate) × (part.burst ≤ curve.burst)

-- a share is counted in sums
abbrev pub IsPeakCounted : Bool → Curve → Loads → Type 0
IsPeakCounted true part loads = IsPart part loads.peaked × (1 ≤ loads.peaked_number)
IsPeakCounted false part loads = ⊤

abbrev pub IsCounted : Share → Loads → Type 0
IsCounted share loads =
    IsPart (widened loads.skew (kept Green share)) loads.green × IsPart (widened loads.skew (kept All share)) loads.all
    × IsPeakCounted share.has_peak (widened loads.skew (kept Excess share)) loads

-- the share of a path, if it leads to a meter
abbrev pub share_by : Source → Bool → Option Bound → List Share
share_by source has_peak into =
    option_to_list (option_map (λ bound. record { source = source; bound = bound; has_peak = has_peak }) into)

-- meter by meter with the shares that are brought to its name
unfoldable pub with_brought : (List ℕ → List Share) → List (List ℕ) → List Loads → List Loads
with_brought brought (name ∷ names) (loads ∷ rest) =
    fold with_share loads (brought name) ∷ with_brought brought names rest
with_brought brought names loads = []

-- sums to which shares were added are what they were before
abbrev pub IsBefore : (List ℕ → List Share) → List (List ℕ) → List Loads → List Loads → Type 0
IsBefore brought names loads before =
    (length before ≡ length loads) × (loads ≡ with_brought brought names before)

-- the sums of shares at a meter with a skew, from nothing
abbrev pub sums_of : ℕ → List Share → Loads
sums_of skew shares = fold with_share (no_loads skew) shares

-- what the contracts of a table bring to each meter, in the order of the meters
abbrev pub loads_of : Table → List Loads
loads_of t = map
    (λ entry. sums_of entry.1.skew (shares_at t.domain entry.0 t.contracts t.certificate)) t.domain.meters

-- no number is above a limit
abbrev pub IsBelow : ℕ → Curve → Type 0
IsBelow most curve = (curve.rate ≤ most) × (curve.burst ≤ most)

abbrev pub AreBelow : ℕ → Loads → Type 0
AreBelow most loads =
    (loads.skew ≤ 10 ^ 10) × IsBelow most loads.green × IsBelow most loads.all × IsBelow most loads.peaked
    × (loads.peaked_number ≤ most)

-- a share is as small as its parts can be
abbrev pub IsSmall : Share → Type 0
IsSmall share = IsModerate share.source × IsInRange share.bound

-- and so are all shares that are brought to meters
abbrev pub AreSmall : (List ℕ → List Share) → List (List ℕ × Meter) → Type 0
AreSmall brought meters = AllByRecursion (λ entry. AllByRecursion IsSmall (brought entry.0)) meters

-- sums are those of a table from scratch, and what is added up is small
pub record IsKept (t : Table) (loads : List Loads) : Type 0 where
  pub sums : loads ≡ loads_of t
  pub small : AreSmall (λ name. shares_at t.domain name t.contracts t.certificate) t.domain.meters
  pub short : AllByRecursion (λ entry. entry.1.skew ≤ 10 ^ 10) t.domain.meters

-- a table is acceptable, and these are its sums
pub record IsSound (t : Table) (loads : List Loads) : Type 0 where
  pub acceptable : IsAcceptable t
  pub kept : IsKept t loads

-- and beside its contracts stand their routes
pub record IsHeld (t : Table) (held : List Route) (loads : List Loads) : Type 0 where
  pub sound : IsSound t loads
  pub routes : held ≡ map (route_of t.domain) t.contracts

-- what is held against a meter's limit of green and yellow packets
abbrev pub counted_load : Parameters → Loads → Curve
counted_load (SrTcm p) loads = if nat_eq loads.peaked_number 0 then nothing else loads.all
counted_load (TrTcm p) loads = loads.all
counted_load (Rfc4115 p) loads = loads.peaked

-- the tests of sums, meter by meter
abbrev pub sum_tests : List ℕ × Meter → Loads → List Test
sum_tests entry loads = load_tests entry.0 entry.1 loads.green (counted_load entry.1.parameters loads)

unfoldable pub sums_tests : List (List ℕ × Meter) → List Loads → List Test
sums_tests (entry ∷ meters) (loads ∷ rest) = sum_tests entry loads ++ sums_tests meters rest
sums_tests meters loads = []
