-- What visits make of the meters at the sites, and of the colours that packets carry.
use Rattle.std.specs.Prelude.{ℕ, ◌-◌, List, [], ◌∷◌, map, slice_get, slice_set, option_map, Option, None, Some}
use Rattle.std.specs.Option.{option_flatten}
use Rattle.std.specs.List.{range_with_len}
use Rattle.moment_core.specs.declared.colour.Colour.{Colour}
use Rattle.moment_core.specs.declared.colour.Colour.TheVariants.{Red}
use Rattle.moment_core.specs.Metering.{Offer}
use Rattle.meter_book_base.specs.AnyMeter.{after_any, left_of}
use Rattle.meter_book_base.specs.declared.any_meter.AnyMeter.{AnyMeter}
use Rattle.ds_domain_base.specs.Sent.{came}
use Rattle.ds_domain_base.specs.declared.contract.Contract.{Contract}
use Rattle.ds_checker.specs.Acceptance.{Table}
use Rattle.meter_fabric_base.specs.Grounds.{contract_of, ground_of}
use Rattle.meter_fabric_base.specs.Openings.{opening_at, site_count}
use Rattle.ds_conductor_base.specs.Visits.{visits_of}
use Rattle.ds_conductor_base.specs.declared.sent.Sent.{Sent}
use Rattle.ds_conductor_base.specs.declared.visit.Visit.{Visit}

-- a packet on its way: its size, and the colour that it carries
pub record Carried : Type 0 where
  pub size : ℕ
  pub colour : Colour

-- The meters of the sites as they stand, each at its number, and packets in the order in which they were sent, of which
-- the first has this place among all.
pub record Traffic : Type 0 where
  pub meters : List (Option AnyMeter)
  pub first : ℕ
  pub packets : List Carried

abbrev pub came_by : Option Contract → ℕ → Colour
came_by None dscp = Red
came_by (Some c) dscp = came c dscp

-- the colour that a packet comes in with: that of its code point in its contract's class
abbrev pub came_of : Table → Sent → Colour
came_of t s = came_by (contract_of (ground_of t) s.flow) s.dscp

-- a packet as it comes in
abbrev pub came_in : Table → Sent → Carried
came_in t s = record { size = s.size; colour = came_of t s }

-- the meter at a site before the first packet, with full buckets; where none stands, as at a trusted contract's number,
-- there is none
abbrev pub meter_at : Table → ℕ → Option AnyMeter
meter_at t site = option_map (λ o. o.meter) (opening_at (ground_of t) site)

-- before the first visit
abbrev pub entered : Table → List Sent → Traffic
entered t sent = record {
  meters = map (meter_at t) (range_with_len 0 (site_count t));
  first = 0;
  packets = map (came_in t) sent;
}

-- a packet on a visit as it is offered to a meter
abbrev pub offer_of : Visit → Carried → Offer
offer_of v p = record { moment = v.moment; size = p.size; came = p.colour }

-- a packet on a visit at a site: the meter behind it, and the colour that the packet leaves with, which is that which
-- it carries where no meter stands
abbrev pub met : Option AnyMeter → Visit → Carried → Option AnyMeter × Colour
met None v p = (None, p.colour)
met (Some m) v p = (Some (after_any m (offer_of v p)), left_of m (offer_of v p))

-- the meter that stands at a site, if there is one
abbrev pub meter_in : List (Option AnyMeter) → ℕ → Option AnyMeter
meter_in meters site = option_flatten (slice_get meters site)

abbrev pub passed_by : Traffic → Visit → Option Carried → Traffic
passed_by g v None = g
passed_by g v (Some p) = let behind = met (meter_in g.meters v.hop.site) v p in record g {
  meters = slice_set g.meters v.hop.site behind.0;
  packets = slice_set g.packets (v.place - g.first) (record p { colour = behind.1 });
}

-- What a visit makes: its packet, if it is there, carries on the colour that it leaves the meter of its site with.
unfoldable pub passed : Traffic → Visit → Traffic
passed g v = passed_by g v (slice_get g.packets (v.place - g.first))

-- what visits make, one after the other
unfoldable pub passed_all : Traffic → List Visit → Traffic
passed_all g [] = g
passed_all g (v ∷ visits) = passed_all (passed g v) visits

-- the colours that packets carry
abbrev pub colours_in : List Carried → List Colour
colours_in packets = map (λ p. p.colour) packets

-- The colours with which packets leave their last meters, in the order in which they were sent: all visits are made in
-- their order, each by the meter of its site as it then stands.
unfoldable pub colours_of : Table → List Sent → List Colour
colours_of t sent = colours_in (passed_all (entered t sent) (visits_of t sent)).packets
