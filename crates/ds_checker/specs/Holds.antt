-- How long a contract's share is to be held once the contract has ended: as long as its last packets can take to a
-- meter of its path, and until its rate alone has given the burst that it may have had there (Cruz 1991, section II).
use Rattle.std.specs.Prelude.{ℕ, ◌+◌, max, List, [], ◌∷◌, ◌++◌, drop, map, slice_get, Option, None, Some}
use Rattle.moment_core.specs.Columns.{each_column}
use Rattle.moment_core.specs.Volume.{nanoseconds_for}
use Rattle.envelope_core.specs.Curve.{Curve, widened}
use Rattle.ds_domain_base.specs.Domains.{Domain, floor_of, jitter_of, link_of, meter_of}
use Rattle.ds_domain_base.specs.Routes.{meter_skew}
use Rattle.ds_domain_base.specs.declared.contract.Contract.{Contract}
use Rattle.ds_certificate.specs.Columns.{Bound, bytes_in, envelope_in}
use Rattle.ds_certificate.specs.Sources.{source_of}
use Rattle.ds_certificate.specs.declared.source.Source.{Source}
use Rattle.ds_checker.specs.Acceptance.{Table}

-- the longest that a packet takes over a link
abbrev pub link_delay : Domain → List ℕ → List ℕ → ℕ
link_delay d from to = floor_of (link_of d from to) + jitter_of (link_of d from to)

-- the time on the way to a meter, the meter's skew, and the time in which the rate gives what is widened by the skew
abbrev pub hold_behind : ℕ → ℕ → Curve → ℕ
hold_behind way skew kept = way + skew + nanoseconds_for kept.rate (widened skew kept).burst

-- at a meter that is reached in a time, in each column
abbrev pub holds_at_hop : Source → ℕ → ℕ → Bound → List ℕ
holds_at_hop s way skew bound = map
    (λ column. hold_behind way skew (record { rate = (envelope_in column s).rate; burst = bytes_in column bound }))
    each_column

-- hop by hop from a name on, which is reached in a time
unfoldable pub holds_along : Domain → Source → ℕ → List ℕ → List (List ℕ) → List Bound → List ℕ
holds_along d s way from (to ∷ path) (bound ∷ bounds) =
    holds_at_hop s (way + link_delay d from to) (meter_skew (meter_of d to)) bound
    ++ holds_along d s (way + link_delay d from to) to path bounds
holds_along d s way from path bounds = []

-- those of a contract, from its first meter to its last
abbrev pub holds_of : Domain → Contract → List Bound → List ℕ
holds_of d c bounds = holds_along d (source_of d c) 0 c.port c.path (drop 1 bounds)

-- the greatest of some numbers; 0 of none
unfoldable pub greatest : List ℕ → ℕ
greatest [] = 0
greatest (n ∷ numbers) = max n (greatest numbers)

abbrev pub hold_of : Domain → Contract → List Bound → ℕ
hold_of d c bounds = greatest (holds_of d c bounds)

-- the hold of the contract at a place, if one stands there
abbrev pub hold_by : Domain → Option Contract → Option (List Bound) → Option ℕ
hold_by d (Some c) (Some bounds) = Some (hold_of d c bounds)
hold_by d c bounds = None

abbrev pub hold_at : Table → ℕ → Option ℕ
hold_at t index = hold_by t.domain (slice_get t.contracts index) (slice_get t.certificate index)
