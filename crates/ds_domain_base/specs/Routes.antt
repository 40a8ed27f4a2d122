-- The route of a contract: its port and its path, once each name of it is looked up in a domain. What is said of a
-- route speaks of places among the meters, and of no names.
use Rattle.std.specs.Prelude.{ℕ, ◌≤◌, ◌<◌, Bool, false, ◌||◌, List, [], ◌∷◌, length, map, nat_eq, position, unwrap_or, Option, None, Some, bytes_eq}
use Rattle.std.specs.List.{AllByRecursion, IsDistinct, list_any}
use Rattle.std.specs.Map.{keys_of}
use Rattle.ds_domain_base.specs.Domains.{Domain, floor_of, jitter_of, link_of, meter_of, port_of, skew_of}
use Rattle.ds_domain_base.specs.declared.contract.Contract.{Contract}
use Rattle.ds_domain_base.specs.declared.parts.Meter.{Meter}
use Rattle.ds_domain_base.specs.declared.route.Leg.{Leg}

-- the place of the meter of a name among the meters; 0 where there is none
abbrev pub place_of : Domain → List ℕ → ℕ
place_of d name = unwrap_or (position (bytes_eq name) (keys_of d.meters)) 0

-- the skew of a meter; 0 where there is none
abbrev pub meter_skew : Option Meter → ℕ
meter_skew None = 0
meter_skew (Some m) = m.skew

-- the leg from a name to the meter of a name: the link between, and the meter
abbrev pub leg_of : Domain → List ℕ → List ℕ → Leg
leg_of d from to = record {
  place = place_of d to;
  skew = meter_skew (meter_of d to);
  floor = floor_of (link_of d from to);
  jitter = jitter_of (link_of d from to);
}

-- the legs along a path from a name on
unfoldable pub legs_along : Domain → List ℕ → List (List ℕ) → List Leg
legs_along d from [] = []
legs_along d from (to ∷ rest) = leg_of d from to ∷ legs_along d to rest

-- where packets enter, and how they go on: the skew of the port, and the legs to the meters
pub record Route : Type 0 where
  pub skew : ℕ
  pub legs : List Leg

-- the one route of a contract in a domain
abbrev pub route_of : Domain → Contract → Route
route_of d c = record { skew = skew_of (port_of d c.port); legs = legs_along d c.port c.path }

-- the places of the meters of some legs, and the jitters of their links
abbrev pub places_of : List Leg → List ℕ
places_of legs = map (λ leg. leg.place) legs

abbrev pub jitters_in : List Leg → List ℕ
jitters_in legs = map (λ leg. leg.jitter) legs

-- each leg leads to one of so many meters
abbrev pub AreInside : ℕ → List Leg → Type 0
AreInside meters legs = AllByRecursion (λ leg. leg.place < meters) legs

-- legs that come to a meter twice
unfoldable pub comes_back : List Leg → Bool
comes_back [] = false
comes_back (leg ∷ legs) = list_any (λ other. nat_eq other.place leg.place) legs || comes_back legs

-- What every route keeps: it has 1 to 16 legs, and comes to no meter twice.
pub record IsRoute (r : Route) : Type 0 where
  pub some : 1 ≤ length r.legs
  pub few : length r.legs ≤ 16
  pub once : IsDistinct nat_eq (places_of r.legs)
