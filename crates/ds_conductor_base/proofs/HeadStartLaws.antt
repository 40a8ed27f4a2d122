-- Head starts: how near the first stops of contracts are.
use Rattle.std.proofs.Common.{◌≡◌, ◌⊎◌, inl, inr, ◌<◌, ◌≤◌, ◌+◌, ℕ, suc, List, [], ◌∷◌, ◌++◌, length, min, take, get_or, Option, None, Some, refl, sym, ap, ◌∙◌, subst, arith, IfSome, slice_get, All}
use Rattle.std.proofs.lemmas.List.Elements.{All-append, All-cons, All-head, All-nil, All-weaker}
use Rattle.std.proofs.lemmas.Option.{same_Some, slice_get_read, slice_get_within}
use Rattle.moment_core.specs.declared.colour.Mode.{Mode}
use Rattle.meter_book_base.specs.declared.any_meter.Parameters.{Parameters}
use Rattle.ds_domain_base.specs.Domains.{Domain, floor_of, link_of}
use Rattle.ds_domain_base.specs.Routes.{leg_of, legs_along, route_of}
use Rattle.ds_domain_base.specs.declared.contract.Contract.{Contract}
use Rattle.ds_domain_base.specs.declared.route.Leg.{Leg}
use Rattle.ds_domain_base.specs.declared.terms.Peak.{Peak}
use Rattle.ds_domain_base.specs.declared.terms.Profile.{Profile}
use Rattle.ds_domain_base.specs.declared.terms.Terms.{Terms}
use Rattle.ds_domain_base.specs.declared.terms.Terms.TheVariants.{Trusted, Policed}
use Rattle.ds_checker.specs.Acceptance.{Table}
use Rattle.meter_fabric_base.specs.Grounds.{contract_of, ground_of, most_flows}
use Rattle.meter_fabric_base.proofs.GroundLaws.{found_at}
use Rattle.ds_conductor_base.specs.Laws.{HeadStartsHold}
use Rattle.ds_conductor_base.specs.Streams.{ComeFrom}
use Rattle.ds_conductor_base.specs.Ways.{IsHeadStart, NoneNearer, delay_over, edge_stops, stops_along, stops_by, stops_of, Stop}
use Rattle.ds_conductor_base.specs.declared.sent.Sent.{Sent}

abbrev IsFrom : ℕ → Stop → Type 0
IsFrom delay stop = delay ≤ stop.delay

-- ---- the stops of a contract

-- further along a path the stops are further away
along_further : (least : ℕ) (d : Domain) (number : ℕ) (from : List ℕ) (delay : ℕ) (path : List (List ℕ)) → least ≤ delay → NoneNearer least (stops_along d number from delay path)
unfolding stops_along
along_further least d number from delay [] low = All-nil (IsFrom least)
along_further least d number from delay (to ∷ path) low =
    All-cons (IsFrom least) (record { hop = _; delay = delay_over d from to delay }) (stops_along d (suc number) to (delay_over d from to delay) path) (omega (arith, low))
    (along_further least d (suc number) to (delay_over d from to delay) path (omega (arith, low)))

-- the first stop of a path is the nearest
first_nearest : (d : Domain) (from to : List ℕ) (path : List (List ℕ)) → NoneNearer (floor_of (link_of d from to)) (stops_along d 1 from 0 (to ∷ path))
unfolding stops_along
first_nearest d from to path =
    All-cons (IsFrom (floor_of (link_of d from to))) (record { hop = _; delay = delay_over d from to 0 }) (stops_along d 2 to (delay_over d from to 0) path) (omega arith)
    (along_further (floor_of (link_of d from to)) d 2 to (delay_over d from to 0) path (omega arith))

first_there : (delay : ℕ) (d : Domain) (from to : List ℕ) (path : List (List ℕ)) → NoneNearer delay (stops_along d 1 from 0 (to ∷ path)) → delay ≤ floor_of (link_of d from to)
unfolding stops_along
first_there delay d from to path near =
    let first = All-head (IsFrom delay) _ _ near in omega (arith, first)

none_there : (delay : ℕ) (d : Domain) (from : List ℕ) → NoneNearer delay (stops_along d 1 from 0 [])
unfolding stops_along
none_there delay d from = All-nil (IsFrom delay)

path_nearest : (d : Domain) (from : List ℕ) (path : List (List ℕ)) (leg : Leg) → slice_get (legs_along d from path) 0 ≡ Some leg → NoneNearer leg.floor (stops_along d 1 from 0 path)
unfolding legs_along
path_nearest d from [] leg is = absurd cc
path_nearest d from (to ∷ path) leg is = subst (λ (l : Leg). NoneNearer l.floor (stops_along d 1 from 0 (to ∷ path))) (same_Some (leg_of d from to) leg is) (first_nearest d from to path)

path_there : (delay : ℕ) (d : Domain) (from : List ℕ) (path : List (List ℕ)) (leg : Leg) → slice_get (legs_along d from path) 0 ≡ Some leg → NoneNearer delay (stops_along d 1 from 0 path) → delay ≤ leg.floor
unfolding legs_along
path_there delay d from [] leg is near = absurd cc
path_there delay d from (to ∷ path) leg is near = subst (λ (l : Leg). delay ≤ l.floor) (same_Some (leg_of d from to) leg is) (first_there delay d from to path near)

path_none : (delay : ℕ) (d : Domain) (from : List ℕ) (path : List (List ℕ)) → slice_get (legs_along d from path) 0 ≡ None → NoneNearer delay (stops_along d 1 from 0 path)
unfolding legs_along
path_none delay d from [] is = none_there delay d from
path_none delay d from (to ∷ path) is = absurd cc

-- what is policed comes to its edge at once
edge_there : (delay : ℕ) (d : Domain) (flow : ℕ) (terms : Terms) (stops : List Stop) (parameters : Parameters) (mode : Mode) → terms ≡ Policed parameters mode
    → NoneNearer delay (edge_stops d flow terms ++ stops) → delay ≤ 0
edge_there delay d flow (Trusted committed peak) stops parameters mode is near = absurd cc
edge_there delay d flow (Policed own same) stops parameters mode is near = All-head (IsFrom delay) _ _ near

-- and what is trusted has no edge
no_edge : (d : Domain) (flow : ℕ) (terms : Terms) (stops : List Stop) (committed : Profile) (peak : Option Peak) → terms ≡ Trusted committed peak → edge_stops d flow terms ++ stops ≡ stops
no_edge d flow (Trusted own top) stops committed peak is = refl
no_edge d flow (Policed parameters mode) stops committed peak is = absurd cc

pub policed_there : (delay : ℕ) (d : Domain) (flow : ℕ) (c : Contract) (parameters : Parameters) (mode : Mode) → c.terms ≡ Policed parameters mode → NoneNearer delay (stops_of d flow c) → delay ≤ 0
policed_there delay d flow c parameters mode is near = edge_there delay d flow c.terms (stops_along d 1 c.port 0 c.path) parameters mode is near

module _ (d : Domain) (flow : ℕ) (c : Contract) (committed : Profile) (peak : Option Peak) (is : c.terms ≡ Trusted committed peak) where
  only_path : stops_of d flow c ≡ stops_along d 1 c.port 0 c.path
  only_path = no_edge d flow c.terms (stops_along d 1 c.port 0 c.path) committed peak is

  pub trusted_nearest : (leg : Leg) → slice_get (route_of d c).legs 0 ≡ Some leg → NoneNearer leg.floor (stops_of d flow c)
  trusted_nearest leg there = subst (λ stops. NoneNearer leg.floor stops) (sym only_path) (path_nearest d c.port c.path leg there)

  pub trusted_there : (delay : ℕ) (leg : Leg) → slice_get (route_of d c).legs 0 ≡ Some leg → NoneNearer delay (stops_of d flow c) → delay ≤ leg.floor
  trusted_there delay leg there near = path_there delay d c.port c.path leg there (subst (λ stops. NoneNearer delay stops) only_path near)

  pub trusted_none : (delay : ℕ) → slice_get (route_of d c).legs 0 ≡ None → NoneNearer delay (stops_of d flow c)
  trusted_none delay none = subst (λ stops. NoneNearer delay stops) (sym only_path) (path_none delay d c.port c.path none)

-- ---- the contracts of a port

-- of the first contracts none that is of a port has a nearer stop
abbrev pub AreAhead : Domain → List Contract → List ℕ → ℕ → ℕ → Type 0
AreAhead d contracts port count delay =
    (flow : ℕ) (c : Contract) → flow < count → slice_get contracts flow ≡ Some c → c.port ≡ port → NoneNearer delay (stops_of d flow c)

nearer : (more delay : ℕ) (stops : List Stop) → delay ≤ more → NoneNearer more stops → NoneNearer delay stops
nearer more delay stops low near = All-weaker (IsFrom more) (IsFrom delay) (λ stop there. omega (arith, low, there)) stops near

-- one contract more
pub ahead_more : (d : Domain) (contracts : List Contract) (port : List ℕ) (count least delay : ℕ) (c : Contract) → count < length contracts → c ≡ get_or contracts count c
    → AreAhead d contracts port count least → ((flow : ℕ) → c.port ≡ port → NoneNearer delay (stops_of d flow c)) → AreAhead d contracts port (count + 1) (min least delay)
ahead_more d contracts port count least delay c inside is before own flow x short there of_port = by_place (grind (arith, short))
  where
    by_place : flow < count ⊎ flow ≡ count → NoneNearer (min least delay) (stops_of d flow x)
    by_place (inl low) = nearer least (min least delay) (stops_of d flow x) (omega arith) (before flow x low there of_port)
    by_place (inr last) =
        let same : x ≡ c = same_Some x c (sym there ∙ ap (slice_get contracts) last ∙ slice_get_read contracts (length contracts) count c refl inside is) in
        nearer delay (min least delay) (stops_of d flow x) (omega arith)
        (subst (λ (y : Contract). NoneNearer delay (stops_of d flow y)) (sym same) (own flow (ap (λ (y : Contract). y.port) (sym same) ∙ of_port)))

pub ahead_before : (d : Domain) (contracts : List Contract) (port : List ℕ) (count delay : ℕ) → AreAhead d contracts port (count + 1) delay → AreAhead d contracts port count delay
ahead_before d contracts port count delay all flow c short there of_port = all flow c (omega (arith, short)) there of_port

pub ahead_last : (d : Domain) (contracts : List Contract) (port : List ℕ) (count delay : ℕ) (c : Contract) → count < length contracts → c ≡ get_or contracts count c
    → AreAhead d contracts port (count + 1) delay → c.port ≡ port → NoneNearer delay (stops_of d count c)
ahead_last d contracts port count delay c inside is all of_port =
    all count c (omega arith) (slice_get_read contracts (length contracts) count c refl inside is) of_port

-- all of them
pub ahead_all : (t : Table) (contracts : List Contract) (port : List ℕ) (count delay : ℕ) → contracts ≡ take most_flows t.contracts → length contracts ≤ count
    → AreAhead t.domain contracts port count delay → IsHeadStart t port delay
ahead_all t contracts port count delay taken ended all flow = by_found (contract_of (ground_of t) flow) (ap (λ cs. slice_get cs flow) taken ∙ sym (found_at t flow))
  where
    by_found : (found : Option Contract) → slice_get contracts flow ≡ found → IfSome found (λ c. c.port ≡ port → NoneNearer delay (stops_of t.domain flow c))
    by_found None none = tt
    by_found (Some c) there = λ of_port. all flow c (let low = slice_get_within contracts flow c there in omega (arith, low, ended)) there of_port

pub all_ahead : (t : Table) (contracts : List Contract) (port : List ℕ) (count delay : ℕ) → contracts ≡ take most_flows t.contracts → IsHeadStart t port delay
    → AreAhead t.domain contracts port count delay
all_ahead t contracts port count delay taken holds flow c short there of_port =
    subst (λ (found : Option Contract). IfSome found (λ x. x.port ≡ port → NoneNearer delay (stops_of t.domain flow x)))
    (found_at t flow ∙ ap (λ cs. slice_get cs flow) (sym taken) ∙ there) (holds flow) of_port

-- ---- what is sent at a port

abbrev IsSentAt : Table → List ℕ → ℕ → Sent → Type 0
IsSentAt t port moment s = (moment ≤ s.moment) × IfSome (contract_of (ground_of t) s.flow) (λ c. c.port ≡ port)

abbrev ComesFrom : Table → ℕ → Sent → Type 0
ComesFrom t moment s = All (λ stop. moment ≤ s.moment + stop.delay) (stops_by t.domain s.flow (contract_of (ground_of t) s.flow))

comes_later : (t : Table) (port : List ℕ) (delay moment : ℕ) (s : Sent) → IsHeadStart t port delay → IsSentAt t port moment s → ComesFrom t (moment + delay) s
comes_later t port delay moment s ahead at = by_contract (contract_of (ground_of t) s.flow) (ahead s.flow) at.1
  where
    by_contract : (found : Option Contract) → IfSome found (λ c. c.port ≡ port → NoneNearer delay (stops_of t.domain s.flow c)) → IfSome found (λ c. c.port ≡ port)
        → All (λ (stop : Stop). moment + delay ≤ s.moment + stop.delay) (stops_by t.domain s.flow found)
    by_contract None none there = All-nil (λ (stop : Stop). moment + delay ≤ s.moment + stop.delay)
    by_contract (Some c) near there =
        let late = at.0 in
        All-weaker (IsFrom delay) (λ stop. moment + delay ≤ s.moment + stop.delay) (λ stop from. omega (arith, from, late)) (stops_of t.domain s.flow c) (near there)

pub head_starts_hold : HeadStartsHold
head_starts_hold t port delay moment sent ahead at =
    All-weaker (IsSentAt t port moment) (ComesFrom t (moment + delay)) (λ s there. comes_later t port delay moment s ahead there) sent at

-- ---- packets that come from a moment on

pub come_none : (t : Table) (moment : ℕ) → ComeFrom t moment []
come_none t moment = All-nil (ComesFrom t moment)

pub come_both : (t : Table) (moment : ℕ) (sent back : List Sent) → ComeFrom t moment sent → ComeFrom t moment back → ComeFrom t moment (sent ++ back)
come_both t moment sent back first next = All-append (ComesFrom t moment) sent back first next

pub come_sooner : (t : Table) (sooner moment : ℕ) (sent : List Sent) → sooner ≤ moment → ComeFrom t moment sent → ComeFrom t sooner sent
come_sooner t sooner moment sent low from =
    All-weaker (ComesFrom t moment) (ComesFrom t sooner)
    (λ s there. All-weaker (λ (stop : Stop). moment ≤ s.moment + stop.delay) (λ (stop : Stop). sooner ≤ s.moment + stop.delay) (λ stop late. omega (arith, low, late))
    (stops_by t.domain s.flow (contract_of (ground_of t) s.flow)) there) sent from
