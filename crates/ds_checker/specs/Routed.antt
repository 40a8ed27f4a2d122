-- What a contract brings along a route: a share at the place of each leg. It speaks of places alone.
use Rattle.std.specs.Prelude.{⊤, ℕ, ◌+◌, Bool, List, [], ◌∷◌, ◌++◌, map, nat_eq, slice_get, slice_index_or, slice_set, Option, None, Some, if◌then◌else◌}
use Rattle.ds_domain_base.specs.declared.parts.Meter.{Meter}
use Rattle.ds_domain_base.specs.declared.route.Leg.{Leg}
use Rattle.ds_domain_base.specs.Routes.{jitters_in}
use Rattle.ds_certificate.specs.Bounds.{entering, least_behind}
use Rattle.ds_certificate.specs.Columns.{Bound, IsInRange}
use Rattle.ds_certificate.specs.declared.source.Source.{Source}
use Rattle.ds_checker.specs.Holds.{holds_at_hop}
use Rattle.ds_checker.specs.Loads.{Share}
use Rattle.ds_checker.specs.Places.{at_place, earlier}
use Rattle.ds_checker.specs.Sums.{no_loads, sum_tests, with_share}
use Rattle.ds_checker.specs.Tests.{first_failed}
use Rattle.ds_checker.specs.declared.refusal.Refusal.{Refusal}
use Rattle.ds_checker.specs.declared.load.Loads.{Loads}

-- the share of traffic at a meter, by the bound of the hop into it
abbrev pub share_with : Source → Bool → Bound → Share
share_with source has_peak bound = record { source = source; bound = bound; has_peak = has_peak }

-- the sums at a place
abbrev pub sums_at : List Loads → ℕ → Loads
sums_at sums place = slice_index_or sums place (no_loads 0)

-- sums with a share more at a place
abbrev pub with_share_at : Share → ℕ → List Loads → List Loads
with_share_at share place sums = slice_set sums place (with_share (sums_at sums place) share)

-- leg by leg, by the bounds of the hops into their meters
unfoldable pub with_legs : Source → Bool → List Leg → List Bound → List Loads → List Loads
with_legs source has_peak (leg ∷ legs) (bound ∷ bounds) sums =
    with_legs source has_peak legs bounds (with_share_at (share_with source has_peak bound) leg.place sums)
with_legs source has_peak legs bounds sums = sums

-- the sums at the meters of legs
abbrev pub sums_on : List Leg → List Loads → List Loads
sums_on legs sums = map (λ leg. sums_at sums leg.place) legs

-- the bound of the hop into the meter at a place, where a leg leads there
unfoldable pub bound_at : ℕ → List Leg → List Bound → Option Bound
bound_at place (leg ∷ legs) (bound ∷ bounds) = if nat_eq place leg.place then Some bound else bound_at place legs bounds
bound_at place legs bounds = None

-- the first test that fails of sums at a meter, if it is told
abbrev pub refusal_by : Option (List ℕ × Meter) → Loads → Option Refusal
refusal_by None loads = None
refusal_by (Some entry) loads = first_failed (sum_tests entry loads)

-- leg by leg the first test that fails, with the place of its meter, once a share is added to the sums there: of these
-- the one at the lowest place
unfoldable pub first_on : List (List ℕ × Meter) → Source → Bool → List Leg → List Loads → List Bound → Option (ℕ × Refusal)
first_on meters source has_peak (leg ∷ legs) (loads ∷ sums) (bound ∷ bounds) =
    earlier (at_place leg.place (refusal_by (slice_get meters leg.place) (with_share loads (share_with source has_peak bound))))
    (first_on meters source has_peak legs sums bounds)
first_on meters source has_peak legs sums bounds = None

-- the same by the least bounds of traffic that enters before the first leg
abbrev pub first_entering : List (List ℕ × Meter) → Source → Bool → List Leg → List Loads → Option (ℕ × Refusal)
first_entering meters source has_peak legs sums =
    first_on meters source has_peak legs sums (least_behind source (jitters_in legs) (entering source))

-- the bounds of the hops into the meters are in range
unfoldable pub AreBounds : List Leg → List Bound → Type 0
AreBounds (leg ∷ legs) (bound ∷ bounds) = IsInRange bound × AreBounds legs bounds
AreBounds legs bounds = ⊤

-- how long a share is to be held at each hop, leg by leg, from where it is reached in a time
unfoldable pub holds_on : Source → ℕ → List Leg → List Bound → List ℕ
holds_on s way (leg ∷ legs) (bound ∷ bounds) =
    holds_at_hop s (way + (leg.floor + leg.jitter)) leg.skew bound ++ holds_on s (way + (leg.floor + leg.jitter)) legs bounds
holds_on s way legs bounds = []
