-- What is brought along a route, by places, is what is brought to names.
use Rattle.std.proofs.Common.{arith, ◌≡◌, ℕ, suc, ◌+◌, ◌-◌, ◌*◌, ◌^◌, ◌≤◌, ◌<◌, Bool, false, is_none, ◌⊎◌, inl, inr, List, [], ◌∷◌, drop, length, set, get_or, IsTrue, refl, sym, ap, subst, ◌∙◌, bytes_eq}
use Rattle.std.specs.List.{AllByRecursion, IsDistinct, list_any}
use Rattle.std.specs.Map.{keys_of}
use Rattle.std.proofs.lemmas.Bool.Decides.{nat_tests}
use Rattle.std.proofs.lemmas.List.{get_or_default, length-set}
use Rattle.std.proofs.lemmas.Map.Entries.{length-keys_of}
use Rattle.ds_domain_base.specs.Domains.{Domain, meter_of}
use Rattle.ds_domain_base.specs.Fitting.{names_unknown, repeats}
use Rattle.ds_domain_base.specs.Routes.{AreInside, Route, jitters_in, legs_along, place_of, route_of}
use Rattle.ds_domain_base.specs.Sent.{has_peak}
use Rattle.ds_domain_base.specs.declared.contract.Contract.{Contract}
use Rattle.ds_domain_base.specs.declared.route.Leg.{Leg}
use Rattle.ds_domain_base.proofs.RouteLaws.{known_at, legs-inside}
use Rattle.ds_certificate.specs.Bounds.{HasShape, delayed, entering, fits, least_behind, least_of, least_on}
use Rattle.ds_certificate.specs.Columns.{Bound, IsInRange}
use Rattle.ds_certificate.specs.Ranges.{IsModerate}
use Rattle.ds_certificate.specs.Sources.{source_of, source_on}
use Rattle.ds_certificate.specs.declared.source.Source.{Source}
use Rattle.ds_certificate.proofs.LeastLaws.{HasShape-least}
use Rattle.ds_certificate.proofs.RouteLaws.{least-route, source-route}
use Rattle.ds_domain_base.specs.declared.terms.Terms.{Terms}
use Rattle.ds_checker.specs.Changes.{on_terms}
use Rattle.ds_checker.specs.Loads.{share_of}
use Rattle.ds_checker.specs.Routed.{AreBounds, share_with, with_legs}
use Rattle.ds_checker.specs.Sums.{AreBelow, AreSmall, IsBefore, no_loads, share_by, with_brought, with_share}
use Rattle.ds_checker.specs.declared.load.Loads.{Loads}
use Rattle.ds_checker.proofs.LoadLaws.{AreBelow-at, AreBelow-more, bound_into-ended, brought_along, set-below, small-ended, small-hop, with_brought-hop, with_brought-nothing, neither}
use Rattle.std.proofs.lemmas.Bool.{or_parts}

-- ---- one leg more
pub legs-hop : (source : Source) (peaked : Bool) (xs legs : List Leg) (leg : Leg) (ys bounds : List Bound) (b : Bound) (sums whole : List Loads) (l new : Loads)
    → xs ≡ leg ∷ legs → ys ≡ b ∷ bounds → leg.place < length sums → l ≡ get_or sums leg.place l → new ≡ with_share l (share_with source peaked b)
    → with_legs source peaked xs ys sums ≡ whole → with_legs source peaked legs bounds (set sums leg.place new) ≡ whole
unfolding with_legs
legs-hop source peaked xs legs leg ys bounds b sums whole l new is_legs is_bounds inside is is_new kept =
    ap (λ own. with_legs source peaked legs bounds (set sums leg.place own))
    (is_new ∙ ap (λ own. with_share own (share_with source peaked b)) (is ∙ get_or_default sums leg.place l (no_loads 0) inside))
    ∙ sym (ap (λ p. with_legs source peaked p ys sums) is_legs ∙ ap (λ p. with_legs source peaked (leg ∷ legs) p sums) is_bounds)
    ∙ kept

pub legs-ended : (source : Source) (peaked : Bool) (xs : List Leg) (ys : List Bound) (sums whole : List Loads) → (xs ≡ []) ⊎ (ys ≡ [])
    → with_legs source peaked xs ys sums ≡ whole → sums ≡ whole
unfolding with_legs
legs-ended source peaked [] ys sums whole ended kept = kept
legs-ended source peaked (leg ∷ legs) [] sums whole ended kept = kept
legs-ended source peaked (leg ∷ legs) (b ∷ bounds) sums whole ended kept = neither ended

pub inside-here : (n : ℕ) (xs legs : List Leg) (leg : Leg) → xs ≡ leg ∷ legs → AreInside n xs → (leg.place < n) × AreInside n legs
inside-here n xs legs leg is inside = subst (AreInside n) is inside

pub inside-set : (n : ℕ) (sums : List Loads) (i : ℕ) (new : Loads) (legs : List Leg) → AreInside (length sums) legs → AreInside (length (set sums i new)) legs
inside-set n sums i new legs inside = subst (λ m. AreInside m legs) (sym (length-set sums i new)) inside

pub bounds-hop : (xs legs : List Leg) (leg : Leg) (ys bounds : List Bound) (b : Bound) → xs ≡ leg ∷ legs → ys ≡ b ∷ bounds → IsInRange b → AreBounds legs bounds → AreBounds xs ys
unfolding AreBounds
bounds-hop xs legs leg ys bounds b is_legs is_bounds small behind =
    subst (λ p. AreBounds p ys) (sym is_legs) (subst (λ p. AreBounds (leg ∷ legs) p) (sym is_bounds) (small, behind))

pub bounds-ended : (xs : List Leg) (ys : List Bound) → (xs ≡ []) ⊎ (ys ≡ []) → AreBounds xs ys
unfolding AreBounds
bounds-ended [] ys ended = tt
bounds-ended (leg ∷ legs) [] ended = tt
bounds-ended (leg ∷ legs) (b ∷ bounds) ended = neither ended

-- ---- no sum leaves its range
pub leg_room : (n : ℕ) (sums first : List Loads) (i : ℕ) (l : Loads) → n ≤ 16 → i < length sums → l ≡ get_or sums i l → AllByRecursion (AreBelow (2 ^ 120)) first
    → ((most : ℕ) → AllByRecursion (AreBelow most) first → AllByRecursion (AreBelow (most + 2 * 10 ^ 15 * (16 - n))) sums) → AreBelow (2 ^ 121) l
leg_room n sums first i l short inside is room range =
    subst (AreBelow (2 ^ 121)) (sym is)
    (AreBelow-at (2 ^ 121) sums i l inside (AreBelow-more (2 ^ 120 + 2 * 10 ^ 15 * (16 - n)) (2 ^ 121) sums (omega (arith, short)) (range (2 ^ 120) room)))

pub leg_range : (n m : ℕ) (sums : List Loads) (i : ℕ) (l new : Loads) (most : ℕ) → n ≡ suc m → n ≤ 16 → i < length sums → l ≡ get_or sums i l
    → ((most : ℕ) → AreBelow most l → AreBelow (most + 2 * 10 ^ 15) new) → AllByRecursion (AreBelow (most + 2 * 10 ^ 15 * (16 - n))) sums
    → AllByRecursion (AreBelow (most + 2 * 10 ^ 15 * (16 - m))) (set sums i new)
leg_range n m sums i l new most next short inside is grows below =
    let own = subst (AreBelow (most + 2 * 10 ^ 15 * (16 - n))) (sym is) (AreBelow-at (most + 2 * 10 ^ 15 * (16 - n)) sums i l inside below) in
    AreBelow-more (most + 2 * 10 ^ 15 * (16 - n) + 2 * 10 ^ 15) (most + 2 * 10 ^ 15 * (16 - m)) (set sums i new) (omega (arith, next, short))
    (set-below (most + 2 * 10 ^ 15 * (16 - n)) sums i new inside below (grows (most + 2 * 10 ^ 15 * (16 - n)) own))

-- ---- places and names
pub fits-known : (d : Domain) (c : Contract) → IsTrue (fits d c) → (names_unknown d c.path ≡ false) × (repeats c.path ≡ false)
fits-known d c good = (grind (arith, nat_tests), grind (arith, nat_tests))

-- by places as by names
pub with_legs-names : (d : Domain) (source : Source) (peaked : Bool) (from : List ℕ) (path : List (List ℕ)) (bounds : List Bound) (sums : List Loads)
    → names_unknown d path ≡ false → repeats path ≡ false → IsDistinct bytes_eq (keys_of d.meters) → length sums ≡ length d.meters
    → with_legs source peaked (legs_along d from path) bounds sums ≡ with_brought (brought_along source peaked path bounds) (keys_of d.meters) sums
unfolding with_legs legs_along names_unknown repeats
with_legs-names d source peaked from [] bounds sums known once distinct long =
    sym (with_brought-nothing (brought_along source peaked [] bounds) (keys_of d.meters) sums (long ∙ sym (length-keys_of d.meters))
    (λ name. ap (share_by source peaked) (bound_into-ended name [] bounds (inl refl))))
with_legs-names d source peaked from (to ∷ path) [] sums known once distinct long =
    sym (with_brought-nothing (brought_along source peaked (to ∷ path) []) (keys_of d.meters) sums (long ∙ sym (length-keys_of d.meters))
    (λ name. ap (share_by source peaked) (bound_into-ended name (to ∷ path) [] (inr refl))))
with_legs-names d source peaked from (to ∷ path) (b ∷ bounds) sums known once distinct long =
    let found = or_parts (is_none (meter_of d to)) (names_unknown d path) known in
    let other = or_parts (list_any (bytes_eq to) path) (repeats path) once in
    let own = with_share (get_or sums (place_of d to) (no_loads 0)) (share_with source peaked b) in
    with_legs-names d source peaked to path bounds (set sums (place_of d to) own) found.1 other.1 distinct (length-set sums (place_of d to) own ∙ long)
    ∙ with_brought-hop source peaked to path b bounds (keys_of d.meters) sums (place_of d to) (no_loads 0) distinct (long ∙ sym (length-keys_of d.meters))
    (known_at d to found.0) once

-- what a contract brings along its route is what it brings to each meter
pub routed-brought : (d : Domain) (c : Contract) (route : Route) (source : Source) (row behind : List Bound) (sums : List Loads) → route ≡ route_of d c
    → source ≡ source_on d route c.terms → behind ≡ drop 1 row → HasShape d c row → IsDistinct bytes_eq (keys_of d.meters) → length sums ≡ length d.meters
    → with_legs source (has_peak c.terms) route.legs behind sums ≡ with_brought (λ name. share_of d name c row) (keys_of d.meters) sums
routed-brought d c route source row behind sums is is_source is_behind shape distinct long =
    let known = fits-known d c shape.0 in
    ap (λ s. with_legs s (has_peak c.terms) route.legs behind sums) (is_source ∙ source-route d c route is)
    ∙ ap (λ r. with_legs (source_of d c) (has_peak c.terms) r.legs behind sums) is
    ∙ ap (λ b. with_legs (source_of d c) (has_peak c.terms) (legs_along d c.port c.path) b sums) is_behind
    ∙ with_legs-names d (source_of d c) (has_peak c.terms) c.port c.path (drop 1 row) sums known.0 known.1 distinct long

pub routed-inside : (d : Domain) (c : Contract) (route : Route) → route ≡ route_of d c → IsTrue (fits d c) → AreInside (length d.meters) route.legs
routed-inside d c route is good = subst (λ r. AreInside (length d.meters) r.legs) (sym is) (legs-inside d c.port c.path (fits-known d c good).0)

-- ---- and it is small
along-small : (d : Domain) (source : Source) (peaked : Bool) (from : List ℕ) (path : List (List ℕ)) (bounds : List Bound) → IsModerate source
    → AreBounds (legs_along d from path) bounds → AreSmall (brought_along source peaked path bounds) d.meters
unfolding AreBounds legs_along
along-small d source peaked from [] bounds moderate small = small-ended source peaked [] bounds d.meters (inl refl)
along-small d source peaked from (to ∷ path) [] moderate small = small-ended source peaked (to ∷ path) [] d.meters (inr refl)
along-small d source peaked from (to ∷ path) (b ∷ bounds) moderate small =
    small-hop source peaked (to ∷ path) path to (b ∷ bounds) bounds b d.meters refl refl moderate small.0 (along-small d source peaked to path bounds moderate small.1)

pub routed-small : (d : Domain) (c : Contract) (route : Route) (source : Source) (row behind : List Bound) → route ≡ route_of d c → source ≡ source_on d route c.terms
    → behind ≡ drop 1 row → IsModerate source → AreBounds route.legs behind → AreSmall (λ name. share_of d name c row) d.meters
routed-small d c route source row behind is is_source is_behind moderate small =
    let own = is_source ∙ source-route d c route is in
    let bounds = subst (λ b. AreBounds (legs_along d c.port c.path) b) is_behind (subst (λ r. AreBounds r.legs behind) is small) in
    along-small d (source_of d c) (has_peak c.terms) c.port c.path (drop 1 row) (subst IsModerate own moderate) bounds

-- what is added by names was added by places
pub routed-added : (d : Domain) (c : Contract) (route : Route) (source : Source) (peaked : Bool) (legs : List Leg) (row behind : List Bound) (sums before : List Loads)
    → route ≡ route_of d c → source ≡ source_on d route c.terms → peaked ≡ has_peak c.terms → legs ≡ route.legs → behind ≡ drop 1 row → HasShape d c row
    → IsDistinct bytes_eq (keys_of d.meters) → length sums ≡ length d.meters → IsBefore (λ name. share_of d name c row) (keys_of d.meters) sums before
    → sums ≡ with_legs source peaked legs behind before
routed-added d c route source peaked legs row behind sums before is is_source is_peaked is_legs is_behind shape distinct long is_before =
    is_before.1
    ∙ sym (routed-brought d c route source row behind before is is_source is_behind shape distinct (is_before.0 ∙ long))
    ∙ sym (ap (λ p. with_legs source p legs behind before) is_peaked ∙ ap (λ list. with_legs source (has_peak c.terms) list behind before) is_legs)

-- the least bounds of a contract on other terms are told by its route
pub routed-least : (d : Domain) (c : Contract) (route : Route) (terms : Terms) (source : Source) (peaked : Bool) (legs : List Leg) (sums : List Loads)
    → route ≡ route_of d c → source ≡ source_on d route terms → peaked ≡ has_peak terms → legs ≡ route.legs → IsTrue (fits d c)
    → IsDistinct bytes_eq (keys_of d.meters) → length sums ≡ length d.meters
    → with_legs source peaked legs (least_behind source (jitters_in legs) (entering source)) sums
    ≡ with_brought (λ name. share_of d name (on_terms terms c) (least_of d (on_terms terms c))) (keys_of d.meters) sums
routed-least d c route terms source peaked legs sums is is_source is_peaked is_legs good distinct long =
    let other = on_terms terms c in
    let least : drop 1 (least_on source route) ≡ drop 1 (least_of d other) = ap (drop 1) (least-route d other route source is is_source) in
    ap (λ p. with_legs source p legs (least_behind source (jitters_in legs) (entering source)) sums) is_peaked
    ∙ ap (λ list. with_legs source (has_peak terms) list (least_behind source (jitters_in list) (entering source)) sums) is_legs
    ∙ routed-brought d other route source (least_of d other) (least_behind source (jitters_in route.legs) (entering source)) sums is is_source least (HasShape-least d other good)
    distinct long

-- ---- a loop over legs
-- the bound behind one leg, and those behind the others
pub least-leg : (source : Source) (xs legs : List Leg) (leg : Leg) (last next : Bound) → xs ≡ leg ∷ legs → next ≡ delayed source leg.jitter last
    → least_behind source (jitters_in xs) last ≡ next ∷ least_behind source (jitters_in legs) next
unfolding least_behind
least-leg source xs legs leg last next is is_next =
    ap (λ list. least_behind source (jitters_in list) last) is ∙ sym (ap (λ b. b ∷ least_behind source (jitters_in legs) b) is_next)
