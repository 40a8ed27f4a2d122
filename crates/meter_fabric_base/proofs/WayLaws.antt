-- The way of a packet as sites one behind the other.
use Rattle.std.proofs.Common.{◌≡◌, ◌≤◌, ◌<◌, ◌+◌, ◌^◌, ℕ, zero, suc, Bool, true, false, List, [], ◌∷◌, ◌++◌, length, map, take, drop, set, get_or, Option, None, Some, refl, sym, ap, ◌∙◌, arith, append_assoc, append-nil, nat_lt, option_map, position, slice_get, unwrap_or, bytes_eq}
use Rattle.std.specs.List.{range_with_len}
use Rattle.std.specs.List.Sorted.{IsStrictlyIncreasing}
use Rattle.std.specs.Map.{keys_of}
use Rattle.std.proofs.lemmas.Bool.Decides.{nat_tests}
use Rattle.std.proofs.lemmas.List.FromFn.{length-map-range_with_len}
use Rattle.std.proofs.lemmas.List.{drop_all, drop_more, get_or-take, length-take, take_more_set}
use Rattle.std.proofs.lemmas.List.Quantifiers.{position-Some}
use Rattle.std.proofs.lemmas.Map.Entries.{length-keys_of}
use Rattle.std.proofs.lemmas.Option.{get_or_from_slice_get, slice_get-get_or, slice_get-map, slice_get_past}
use Rattle.ds_domain_base.specs.Domains.{Domain}
use Rattle.ds_domain_base.specs.Routes.{AreInside, legs_along, place_of, places_of}
use Rattle.ds_domain_base.specs.declared.contract.Contract.{Contract}
use Rattle.ds_domain_base.specs.declared.route.Leg.{Leg}
use Rattle.ds_domain_base.specs.declared.terms.Terms.{Terms}
use Rattle.ds_domain_base.specs.declared.terms.Terms.TheVariants.{Trusted, Policed}
use Rattle.ds_checker.specs.Acceptance.{Table}
use Rattle.meter_fabric_base.specs.Grounds.{Ground, contract_of, flow_count, ground_of, most_flows}
use Rattle.meter_fabric_base.specs.Numbered.{IsPlaceOf, numbered_ground}
use Rattle.meter_fabric_base.specs.Sites.{edge_hops, hops_along, hops_of, site_of}
use Rattle.meter_fabric_base.specs.Ways.{hops_from, way_at}
use Rattle.meter_fabric_base.specs.declared.hop.Hop.{Hop}
use Rattle.meter_fabric_base.proofs.GroundLaws.{contract_past}
use Rattle.meter_fabric_base.proofs.NumberedLaws.{contract_placed, numbered_past}
use Rattle.meter_fabric_base.proofs.RangeLaws.{range_within}

abbrev hop : ℕ → ℕ → Hop
hop number site = record { number = number; site = site }

-- ---- hops by their places

length-hops_from : (number : ℕ) (sites : List ℕ) → length (hops_from number sites) ≡ length sites
unfolding hops_from
length-hops_from number [] = refl
length-hops_from number (site ∷ sites) = ap suc (length-hops_from (suc number) sites)

pub counted : (first count : ℕ) (sites : List ℕ) → count ≤ 17 → length sites ≡ 17 → length (hops_from first (take count sites)) ≡ count
counted first count sites most long = omega (arith, length-hops_from first (take count sites), length-take count sites, most, long)

hops_from-at : (number : ℕ) (sites : List ℕ) (place : ℕ) → slice_get (hops_from number sites) place ≡ option_map (hop (number + place)) (slice_get sites place)
unfolding hops_from
hops_from-at number [] place = refl
hops_from-at number (site ∷ sites) zero =
    let here : number + 0 ≡ number = omega arith in
    ap (λ n. Some (hop n site)) (sym here)
hops_from-at number (site ∷ sites) (suc place) =
    let there : number + suc place ≡ suc number + place = omega arith in
    hops_from-at (suc number) sites place ∙ ap (λ n. option_map (hop n) (slice_get sites place)) (sym there)

pub found_hop : (first count place : ℕ) (sites : List ℕ) (other : ℕ) → place < count → count ≤ 17 → length sites ≡ 17
    → Some (hop (first + place) (get_or sites place other)) ≡ slice_get (hops_from first (take count sites)) place
found_hop first count place sites other short most long =
    let inside : place < length (take count sites) = omega (arith, length-take count sites, short, most, long) in
    sym (hops_from-at first (take count sites) place
    ∙ ap (option_map (hop (first + place))) (slice_get-get_or (take count sites) place other inside ∙ ap Some (get_or-take count sites place other short)))

pub no_hop : (first count place : ℕ) (sites : List ℕ) → count ≤ place → count ≤ 17 → length sites ≡ 17
    → None ≡ slice_get (hops_from first (take count sites)) place
no_hop first count place sites past most long = sym (slice_get_past (hops_from first (take count sites)) place (omega (arith, counted first count sites most long, past)))

-- ---- the sites of legs, one by one

pub site_more : (sites next all : List ℕ) (place i site : ℕ) (leg : Leg) (legs : List Leg) → place < length sites → i < length legs
    → leg ≡ get_or legs i leg → site ≡ leg.place → next ≡ set sites place site → take place sites ++ places_of (drop i legs) ≡ all
    → take (place + 1) next ++ places_of (drop (i + 1) legs) ≡ all
site_more sites next all place i site leg legs room inside is_leg is_site is_next kept =
    let rest = places_of (drop (i + 1) legs) in
    let here : drop i legs ≡ leg ∷ drop (i + 1) legs = drop_more legs i leg inside ∙ ap (λ (l : Leg). l ∷ drop (i + 1) legs) (sym is_leg) in
    ap (λ (xs : List ℕ). take (place + 1) xs ++ rest) is_next
    ∙ ap (λ (xs : List ℕ). xs ++ rest) (take_more_set sites place site room)
    ∙ append_assoc (take place sites) (site ∷ []) rest
    ∙ ap (λ (s : ℕ). take place sites ++ s ∷ rest) is_site
    ∙ ap (λ (ls : List Leg). take place sites ++ places_of ls) (sym here)
    ∙ kept

pub legs_placed : (sites all : List ℕ) (place from i : ℕ) (legs : List Leg) → length legs ≤ i → place ≡ from + length legs
    → take place sites ++ places_of (drop i legs) ≡ all → take (from + length legs) sites ≡ all
legs_placed sites all place from i legs ended is kept =
    ap (λ n. take n sites) (sym is)
    ∙ sym (append-nil (take place sites))
    ∙ ap (λ (ls : List Leg). take place sites ++ places_of ls) (sym (drop_all i legs ended))
    ∙ kept

-- a name has a place below the number of meters, or 0
place_low : (d : Domain) (name : List ℕ) → place_of d name ≤ length d.meters
place_low d name = by (position (bytes_eq name) (keys_of d.meters)) refl
  where
    by : (found : Option ℕ) → position (bytes_eq name) (keys_of d.meters) ≡ found → unwrap_or found 0 ≤ length d.meters
    by None is = omega arith
    by (Some place) is = let at = position-Some (bytes_eq name) (keys_of d.meters) place name is in omega (arith, at.0, length-keys_of d.meters)

-- the places of legs have 32 bits
pub legs_low : (d : Domain) (from : List ℕ) (path : List (List ℕ)) → length d.meters ≤ 1024 → AreInside (2 ^ 32) (legs_along d from path)
unfolding legs_along
legs_low d from [] few = tt
legs_low d from (to ∷ path) few = (omega (arith, place_low d to, few), legs_low d to path few)

-- ---- the way of a contract's packets

hops_from-legs : (d : Domain) (number : ℕ) (from : List ℕ) (path : List (List ℕ)) → hops_from number (places_of (legs_along d from path)) ≡ hops_along d number path
unfolding hops_from hops_along legs_along
hops_from-legs d number from [] = refl
hops_from-legs d number from (to ∷ path) = ap (λ rest. hop number (site_of d to) ∷ rest) (hops_from-legs d (suc number) to path)

hops_from-edge : (site : ℕ) (sites : List ℕ) → hops_from 0 (site ∷ sites) ≡ hop 0 site ∷ hops_from 1 sites
unfolding hops_from
hops_from-edge site sites = refl

edge_first : (d : Domain) (flow : ℕ) (terms : Terms) (edge : Hop) → edge ∷ [] ≡ edge_hops d flow terms → edge_hops d flow terms ≡ hop 0 edge.site ∷ []
edge_first d flow (Trusted committed peak) edge is = absurd cc
edge_first d flow (Policed parameters mode) edge is =
    let same : edge ≡ hop 0 (length d.meters + flow) = cc in
    ap (λ (e : Hop). hop 0 e.site ∷ []) (sym same)

pub trusted_way : (d : Domain) (flow : ℕ) (c : Contract) (legs : List Leg) (sites : List ℕ) → legs ≡ legs_along d c.port c.path → [] ≡ edge_hops d flow c.terms
    → take (0 + length legs) sites ≡ places_of legs → hops_from 1 (take (length legs) sites) ≡ hops_of d flow c
trusted_way d flow c legs sites same no_edge placed =
    let place : length legs ≡ 0 + length legs = omega arith in
    ap (λ n. hops_from 1 (take n sites)) place
    ∙ ap (hops_from 1) (placed ∙ ap places_of same)
    ∙ hops_from-legs d 1 c.port c.path
    ∙ ap (λ (edge : List Hop). edge ++ hops_along d 1 c.path) no_edge

pub policed_way : (d : Domain) (flow : ℕ) (c : Contract) (edge : Hop) (legs : List Leg) (sites : List ℕ) → legs ≡ legs_along d c.port c.path
    → edge ∷ [] ≡ edge_hops d flow c.terms → take (1 + length legs) sites ≡ edge.site ∷ places_of legs
    → hops_from 0 (take (length legs + 1) sites) ≡ hops_of d flow c
policed_way d flow c edge legs sites same is_edge placed =
    let place : length legs + 1 ≡ 1 + length legs = omega arith in
    ap (λ n. hops_from 0 (take n sites)) place
    ∙ ap (hops_from 0) (placed ∙ ap (λ ls. edge.site ∷ places_of ls) same)
    ∙ hops_from-edge edge.site (places_of (legs_along d c.port c.path))
    ∙ ap (λ rest. hop 0 edge.site ∷ rest) (hops_from-legs d 1 c.port c.path)
    ∙ ap (λ (front : List Hop). front ++ hops_along d 1 c.path) (sym (edge_first d flow c.terms edge is_edge))

-- ---- the ways of all contracts

way_known : (g : Ground) (flow : ℕ) (c : Contract) → contract_of g flow ≡ Some c → way_at g flow ≡ hops_of g.domain flow c
way_known g flow c is = ap (λ (found : Option Contract). unwrap_or (option_map (hops_of g.domain flow) found) []) is

-- what was kept at a place
kept_at : (kept : List (List Hop)) (place : ℕ) (way own : List Hop) → slice_get kept place ≡ Some own → way ≡ get_or kept place way → way ≡ own
kept_at kept place way own is read = read ∙ get_or_from_slice_get kept place own way is

-- a flow of a table is below their number
flow_within : (t : Table) (flow : ℕ) (c : Contract) → contract_of (ground_of t) flow ≡ Some c → flow < flow_count t
flow_within t flow c is = by_test (nat_lt flow (flow_count t)) refl
  where
    none_some : None ≡ Some c → ⊥
    none_some e = cc

    by_test : (b : Bool) → nat_lt flow (flow_count t) ≡ b → flow < flow_count t
    by_test true low = grind (arith, nat_tests, low)
    by_test false high =
        let past : flow_count t ≤ flow = grind (arith, nat_tests, high) in
        absurd (none_some (sym (contract_past t flow past) ∙ is))

-- as many ways were kept as there are such flows
pub kept_within : (t : Table) (flow : ℕ) (c : Contract) (kept : List (List Hop)) → kept ≡ map (way_at (ground_of t)) (range_with_len 0 (flow_count t))
    → contract_of (ground_of t) flow ≡ Some c → flow < length kept
kept_within t flow c kept own is =
    omega (arith, flow_within t flow c is, ap length own, length-map-range_with_len (way_at (ground_of t)) 0 (flow_count t))

-- the way that was kept of a flow of a table
pub way_placed : (t : Table) (flow : ℕ) (c : Contract) (kept : List (List Hop)) (way : List Hop) → kept ≡ map (way_at (ground_of t)) (range_with_len 0 (flow_count t))
    → contract_of (ground_of t) flow ≡ Some c → way ≡ get_or kept flow way → way ≡ hops_of t.domain flow c
way_placed t flow c kept way own is read =
    let here = ap (λ (all : List (List Hop)). slice_get all flow) own ∙ range_within (way_at (ground_of t)) (flow_count t) flow (flow_within t flow c is) in
    kept_at kept flow way (way_at (ground_of t) flow) here read ∙ way_known (ground_of t) flow c is

-- the way that was kept of a flow at its place
pub way_numbered : (t : Table) (flows : List ℕ) (flow place : ℕ) (c : Contract) (kept : List (List Hop)) (way : List Hop) → kept ≡ map (way_at (numbered_ground t flows)) flows
    → IsPlaceOf flow flows place → contract_of (numbered_ground t flows) flow ≡ Some c → way ≡ get_or kept place way → way ≡ hops_of t.domain flow c
way_numbered t flows flow place c kept way own at is read =
    let g = numbered_ground t flows in
    let there : slice_get flows place ≡ Some flow = slice_get-get_or flows place 0 at.within ∙ ap Some at.here in
    let here : slice_get kept place ≡ Some (way_at g flow) =
    ap (λ (all : List (List Hop)). slice_get all place) own ∙ slice_get-map (way_at g) flows place ∙ ap (option_map (way_at g)) there in
    kept_at kept place way (way_at g flow) here read ∙ way_known g flow c is

-- the way of the contract at a place
pub way_there : (t : Table) (flows : List ℕ) (flow place : ℕ) (c : Contract) (way : List Hop) → IsStrictlyIncreasing flows → flow < most_flows
    → place < length flows → get_or flows place 0 ≡ flow → slice_get t.contracts place ≡ Some c → way ≡ hops_of t.domain flow c → way ≡ way_at (numbered_ground t flows) flow
way_there t flows flow place c way rising low within here is own =
    let at : IsPlaceOf flow flows place = record { low = low; within = within; here = here } in
    own ∙ sym (way_known (numbered_ground t flows) flow c (contract_placed t flows flow place c rising at is))

-- no packet is of a flow past them
pub no_way : (t : Table) (flows : List ℕ) (flow : ℕ) → most_flows ≤ flow → [] ≡ way_at (numbered_ground t flows) flow
no_way t flows flow past = ap (λ (found : Option Contract). unwrap_or (option_map (hops_of t.domain flow) found) []) (numbered_past t flows flow past)
