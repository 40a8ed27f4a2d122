-- The visits of a packet, and those to a site, among all visits.
use Rattle.std.proofs.Common.{◌≡◌, ◌<◌, ◌≤◌, ◌+◌, ℕ, zero, suc, Bool, true, false, List, [], ◌∷◌, ◌++◌, append-nil, length, length-append, map, refl, sym, ap, ◌∙◌, subst, arith, Contains, nat_eq, slice_get, Some, All, filter, eq-eqb, ne_eqb}
use Rattle.std.proofs.lemmas.List.{length-map}
use Rattle.std.proofs.lemmas.List.Elements.{All-weaker, filter-append}
use Rattle.std.proofs.lemmas.List.Sorted.{All-permutation, Contains-permutation, IsPermutation-sym}
use Rattle.std.proofs.lemmas.Option.{none-some, same_Some}
use Rattle.meter_fabric_base.specs.Orders.{in_order}
use Rattle.run_audit.proofs.MemberLaws.{in_filter, of_filter}
use Rattle.meter_fabric_base.proofs.OrderLaws.{ascends-once, in_order-permutes}
use Rattle.ds_checker.specs.Acceptance.{Table}
use Rattle.meter_fabric_base.specs.Grounds.{contract_of, ground_of}
use Rattle.ds_conductor_base.proofs.ApartLaws.{visits_differ}
use Rattle.ds_conductor_base.proofs.InOrderLaws.{visit_order}
use Rattle.ds_conductor_base.proofs.JoinLaws.{ascends-filter, in_order-rises}
use Rattle.ds_conductor_base.proofs.VisitLaws.{visits_from-before, visits_from-behind, visits_to-all}
use Rattle.ds_conductor_base.specs.Visits.{is_before, is_same, visit_to, visits_from, visits_of}
use Rattle.ds_conductor_base.specs.Ways.{stops_at}
use Rattle.ds_conductor_base.specs.declared.sent.Sent.{Sent}
use Rattle.ds_conductor_base.specs.declared.visit.Visit.{Visit}
use Rattle.ds_runs.specs.Behind.{visits_at}
use Rattle.ds_runs.proofs.ListLaws.{keep_all, keep_map, keep_moved, keep_none}
use Rattle.ds_runs.proofs.StopLaws.{at_site, stops-ascend}

-- whether a visit is of the packet of a place, and whether it is to a site
abbrev pub of_place : ℕ → Visit → Bool
of_place place v = nat_eq v.place place

abbrev pub to_site : ℕ → Visit → Bool
to_site site v = nat_eq v.hop.site site

-- ---- the visits of a packet

own_visits : (t : Table) (first : ℕ) (sent : List Sent) (k : ℕ) (s : Sent) → slice_get sent k ≡ Some s
    → filter (of_place (first + k)) (visits_from t first sent) ≡ map (visit_to (first + k) s) (stops_at t s.flow)
unfolding visits_from
own_visits t first [] k s there = absurd (none-some s there)
own_visits t first (r ∷ sent) zero s there =
    let same : r ≡ s = same_Some r s there in
    let place : first ≡ first + 0 = omega arith in
    let own = map (visit_to first r) (stops_at t r.flow) in
    let rest = visits_from t (suc first) sent in
    subst (λ n. filter (of_place n) (own ++ rest) ≡ map (visit_to n s) (stops_at t s.flow)) place
    (filter-append (of_place first) own rest
    ∙ ap (λ vs. vs ++ filter (of_place first) rest)
    (keep_all (of_place first) own (visits_to-all (λ v. of_place first v ≡ true) first r (stops_at t r.flow) (λ q. eq-eqb first first refl)))
    ∙ ap (λ vs. own ++ vs)
    (keep_none (of_place first) rest
    (All-weaker (λ v. suc first ≤ v.place) (λ v. of_place first v ≡ false) (λ v behind. ne_eqb v.place first (λ at. omega (arith, at, behind))) rest
    (visits_from-behind t (suc first) (suc first) sent (omega arith))))
    ∙ append-nil own
    ∙ ap (λ (q : Sent). map (visit_to first q) (stops_at t q.flow)) same)
own_visits t first (r ∷ sent) (suc k) s there =
    let next : suc first + k ≡ first + suc k = omega arith in
    let own = map (visit_to first r) (stops_at t r.flow) in
    let rest = visits_from t (suc first) sent in
    subst (λ n. filter (of_place n) (own ++ rest) ≡ map (visit_to n s) (stops_at t s.flow)) next
    (filter-append (of_place (suc first + k)) own rest
    ∙ ap (λ vs. vs ++ filter (of_place (suc first + k)) rest)
    (keep_none (of_place (suc first + k)) own
    (visits_to-all (λ v. of_place (suc first + k) v ≡ false) first r (stops_at t r.flow) (λ q. ne_eqb first (suc first + k) (λ at. omega (arith, at)))))
    ∙ own_visits t (suc first) sent k s there)

-- among all visits they stand in the order of the packet's stops
pub packet_visits : (t : Table) (sent : List Sent) (k : ℕ) (s : Sent) → slice_get sent k ≡ Some s
    → filter (of_place k) (visits_of t sent) ≡ map (visit_to k s) (stops_at t s.flow)
unfolding visits_of
packet_visits t sent k s there =
    let all = visits_from t 0 sent in
    let sorted = in_order is_before all in
    let stops = map (visit_to k s) (stops_at t s.flow) in
    let moved = in_order-permutes is_before all in
    let place : 0 + k ≡ k = omega arith in
    let own : filter (of_place k) all ≡ stops =
    subst (λ n. filter (of_place n) all ≡ map (visit_to n s) (stops_at t s.flow)) place (own_visits t 0 sent k s there) in
    ascends-once is_before visit_order.order (filter (of_place k) sorted) stops
    (ascends-filter is_before (of_place k) sorted (in_order-rises is_before is_same visit_order all (visits_differ t 0 sent)))
    (stops-ascend k s t.domain s.flow (contract_of (ground_of t) s.flow))
    (λ z has.
    let both = of_filter (of_place k) sorted z has in
    subst (λ us. Contains us z) own
    (in_filter (of_place k) all z (Contains-permutation sorted all z (IsPermutation-sym all sorted moved) both.0) both.1))
    (λ z has.
    let both = of_filter (of_place k) all z (subst (λ us. Contains us z) (sym own) has) in
    in_filter (of_place k) sorted z (Contains-permutation all sorted z moved both.0) both.1)

-- each visit is of a packet that is sent
pub visits_there : (t : Table) (sent : List Sent) → All (λ v. v.place < length sent) (visits_of t sent)
unfolding visits_of
visits_there t sent =
    All-permutation (λ v. v.place < length sent) (visits_from t 0 sent) (in_order is_before (visits_from t 0 sent)) (in_order-permutes is_before (visits_from t 0 sent))
    (visits_from-before t 0 (length sent) sent (omega arith))

-- ---- the visits to a site

-- the packets of no contract come to a site twice
abbrev pub ComesOnce : Table → ℕ → Type 0
ComesOnce t site = (flow : ℕ) → length (filter (at_site site) (stops_at t flow)) ≤ 1

few_from : (t : Table) (site first : ℕ) (sent : List Sent) → ComesOnce t site → length (filter (to_site site) (visits_from t first sent)) ≤ length sent
unfolding visits_from
few_from t site first [] once = omega arith
few_from t site first (s ∷ sent) once =
    let own = map (visit_to first s) (stops_at t s.flow) in
    let rest = visits_from t (suc first) sent in
    let both = ap length (filter-append (to_site site) own rest) ∙ length-append (filter (to_site site) own) (filter (to_site site) rest) in
    let mine = ap length (keep_map (to_site site) (visit_to first s) (stops_at t s.flow)) ∙ length-map (filter (at_site site) (stops_at t s.flow)) (visit_to first s) in
    omega (arith, both, mine, once s.flow, few_from t site (suc first) sent once)

pub few_visits : (t : Table) (sent : List Sent) (site : ℕ) → ComesOnce t site → length (visits_at t sent site) ≤ length sent
unfolding visits_of
few_visits t sent site once =
    let all = visits_from t 0 sent in
    let same = keep_moved (to_site site) all (in_order is_before all) (in_order-permutes is_before all) in
    omega (arith, same, few_from t site 0 sent once)
