-- What is taken at each meter of a path where contracts come to a table that are alike: with one of them, and with two.
use Rattle.std.specs.Prelude.{ℕ, ◌-◌, Bool, List, [], ◌∷◌, ◌++◌, length, replicate, slice_get, Option, None, Some}
use Rattle.ds_domain_base.specs.Routes.{jitters_in, route_of}
use Rattle.ds_domain_base.specs.Sent.{has_peak}
use Rattle.ds_domain_base.specs.declared.parts.Meter.{Meter}
use Rattle.ds_domain_base.specs.declared.route.Leg.{Leg}
use Rattle.ds_certificate.specs.Bounds.{entering, least_behind}
use Rattle.ds_certificate.specs.Columns.{Bound}
use Rattle.ds_certificate.specs.Sources.{source_on}
use Rattle.ds_certificate.specs.declared.source.Source.{Source}
use Rattle.ds_checker.specs.Besides.{Offer}
use Rattle.ds_checker.specs.Headrooms.{headroom_by, utilized}
use Rattle.ds_checker.specs.Loads.{Share}
use Rattle.ds_checker.specs.Routed.{share_with, sums_on}
use Rattle.ds_checker.specs.Sums.{counted_load, loads_of, with_share}
use Rattle.ds_checker.specs.declared.headroom.Growth.{Growth}
use Rattle.ds_checker.specs.declared.headroom.Headroom.{Headroom}
use Rattle.ds_checker.specs.declared.load.Loads.{Loads}

-- by sums at a meter
abbrev pub headroom_in : Meter → Loads → Headroom
headroom_in m loads = headroom_by m loads.green (counted_load m.parameters loads)

-- nothing of nothing
abbrev pub no_headroom : Headroom
no_headroom = record {
  green_rate = utilized 0 0;
  green_burst = utilized 0 0;
  all_rate = utilized 0 0;
  all_burst = utilized 0 0;
}

abbrev pub no_growth : Growth
no_growth = record { one = no_headroom; two = no_headroom }

-- at a meter, if it is told, where a share is added to the sums there once, and where it is added twice
abbrev pub growth_by : Option (List ℕ × Meter) → Loads → Share → Growth
growth_by None loads share = no_growth
growth_by (Some entry) loads share = record {
  one = headroom_in entry.1 (with_share loads share);
  two = headroom_in entry.1 (with_share (with_share loads share) share);
}

-- leg by leg, by the bounds of the hops into their meters
unfoldable pub growths_on : List (List ℕ × Meter) → Source → Bool → List Leg → List Loads → List Bound → List Growth
growths_on meters source has_peak (leg ∷ legs) (loads ∷ sums) (bound ∷ bounds) =
    growth_by (slice_get meters leg.place) loads (share_with source has_peak bound)
    ∷ growths_on meters source has_peak legs sums bounds
growths_on meters source has_peak legs sums bounds = []

-- along the path of a contract beside a table, by its least bounds; of 16 the others are none
abbrev pub growths_along : List (List ℕ × Meter) → Source → Bool → List Leg → List Loads → List Growth
growths_along meters source has_peak legs sums =
    growths_on meters source has_peak legs sums (least_behind source (jitters_in legs) (entering source))
    ++ replicate (16 - length legs) no_growth

abbrev pub growths_of : Offer → List Growth
growths_of o =
    let route = route_of o.table.domain o.contract in
    growths_along o.table.domain.meters (source_on o.table.domain route o.contract.terms) (has_peak o.contract.terms)
    route.legs (sums_on route.legs (loads_of o.table))
