-- The way of a contract's packets where each link takes its floor.
use Rattle.std.specs.Prelude.{◌≡◌, ℕ, suc, ◌+◌, ◌*◌, ◌^◌, ◌≤◌, List, [], ◌∷◌, ◌++◌, All, map, slice_get, unwrap_or, Option, None, Some, IfSome}
use Rattle.ds_domain_base.specs.Domains.{Domain, floor_of, link_of}
use Rattle.ds_domain_base.specs.declared.contract.Contract.{Contract}
use Rattle.ds_domain_base.specs.declared.route.Leg.{Leg}
use Rattle.ds_domain_base.specs.declared.terms.Terms.{Terms}
use Rattle.ds_checker.specs.Acceptance.{Table}
use Rattle.meter_fabric_base.specs.Grounds.{contract_of, ground_of}
use Rattle.meter_fabric_base.specs.Sites.{edge_hops, site_of}
use Rattle.meter_fabric_base.specs.declared.hop.Hop.{Hop}

-- a hop, and how long after it was sent a packet comes there
pub record Stop : Type 0 where
  pub hop : Hop
  pub delay : ℕ

-- what is policed comes to its edge when it is sent
abbrev pub edge_stops : Domain → ℕ → Terms → List Stop
edge_stops d flow terms = map (λ hop. record { hop = hop; delay = 0 }) (edge_hops d flow terms)

-- the delay with which a packet comes over a link, by that with which it left
abbrev pub delay_over : Domain → List ℕ → List ℕ → ℕ → ℕ
delay_over d from to delay = delay + floor_of (link_of d from to)

-- the meters of a path, of which the first is the hop of this number, from a name on that was left with a delay
unfoldable pub stops_along : Domain → ℕ → List ℕ → ℕ → List (List ℕ) → List Stop
stops_along d number from delay [] = []
stops_along d number from delay (to ∷ path) =
    record { hop = record { number = number; site = site_of d to }; delay = delay_over d from to delay }
    ∷ stops_along d (suc number) to (delay_over d from to delay) path

-- the same along legs, by the places of their meters
unfoldable pub stops_on : ℕ → ℕ → List Leg → List Stop
stops_on number delay [] = []
stops_on number delay (leg ∷ legs) =
    record { hop = record { number = number; site = leg.place }; delay = delay + leg.floor }
    ∷ stops_on (suc number) (delay + leg.floor) legs

-- the hops of a contract's packets, and how long after it was sent a packet comes to each
abbrev pub stops_of : Domain → ℕ → Contract → List Stop
stops_of d flow c = edge_stops d flow c.terms ++ stops_along d 1 c.port 0 c.path

abbrev pub stops_by : Domain → ℕ → Option Contract → List Stop
stops_by d flow None = []
stops_by d flow (Some c) = stops_of d flow c

-- those of the packets of a contract's number; none where there is no such contract
abbrev pub stops_at : Table → ℕ → List Stop
stops_at t flow = stops_by t.domain flow (contract_of (ground_of t) flow)

-- the stops of each contract stand at its number
abbrev pub AreWays : Table → List (List Stop) → Type 0
AreWays t ways = (flow : ℕ) → unwrap_or (slice_get ways flow) [] ≡ stops_at t flow

-- no stop is further than sixteen links of the greatest floor, 10^10 nanoseconds
abbrev pub AreNear : List Stop → Type 0
AreNear stops = All (λ stop. stop.delay ≤ 16 * 10 ^ 10) stops

abbrev pub AreInReach : Table → Type 0
AreInReach t = (flow : ℕ) → AreNear (stops_at t flow)

-- no stop is nearer than this
abbrev pub NoneNearer : ℕ → List Stop → Type 0
NoneNearer delay stops = All (λ stop. delay ≤ stop.delay) stops

-- a head start that packets have at a port: no contract there has a stop that is nearer
abbrev pub IsHeadStart : Table → List ℕ → ℕ → Type 0
IsHeadStart t port delay = (flow : ℕ)
    → IfSome (contract_of (ground_of t) flow) (λ c. c.port ≡ port → NoneNearer delay (stops_of t.domain flow c))
