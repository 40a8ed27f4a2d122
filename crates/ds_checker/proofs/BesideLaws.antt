-- A table without one of its contracts, as one contract more sees it along its route.
use Rattle.std.proofs.Common.{arith, ◌≡◌, ℕ, ◌^◌, ◌<◌, ◌≤◌, Bool, true, false, List, [], ◌∷◌, length, get_or, drop, if◌then◌else◌, nat_eq, nat_lt, not, Option, None, Some, option_map, refl, sym, ap, subst, ◌∙◌, IfSome, IsTrue, is_none, is_some, bytes_eq}
use Rattle.std.specs.List.{AllByRecursion, IsDistinct, fold}
use Rattle.std.proofs.lemmas.List.{get_or_default, length-map}
use Rattle.std.proofs.lemmas.List.Edits.{length-remove}
use Rattle.ds_domain_base.specs.Domains.{Domain}
use Rattle.ds_domain_base.specs.Lifetimes.{Span}
use Rattle.ds_domain_base.specs.Routes.{AreInside, IsRoute, Route, jitters_in, places_of, route_of}
use Rattle.ds_domain_base.specs.Sent.{has_peak}
use Rattle.ds_domain_base.specs.declared.contract.Contract.{Contract}
use Rattle.ds_domain_base.specs.declared.parts.Meter.{Meter}
use Rattle.ds_domain_base.specs.declared.route.Leg.{Leg}
use Rattle.ds_domain_base.specs.declared.terms.Terms.{Terms}
use Rattle.ds_certificate.specs.Bounds.{HasShape, entering, fits, least_behind, least_of}
use Rattle.ds_certificate.specs.Columns.{Bound}
use Rattle.ds_certificate.specs.Sources.{source_on}
use Rattle.ds_certificate.specs.declared.source.Source.{Source}
use Rattle.std.specs.Map.{keys_of}
use Rattle.ds_checker.specs.Acceptance.{IsAcceptable, Table, refusal_of}
use Rattle.ds_checker.specs.Besides.{Brought, HasPlaces, IsBeside, IsLeft, IsNameless, Offer, brought_at, rest_of, with_held}
use Rattle.ds_checker.specs.Changes.{lasting, on_terms, with_contract, without_contract}
use Rattle.ds_checker.specs.Loads.{share_of, shares_at}
use Rattle.ds_checker.specs.Places.{at_place, earlier}
use Rattle.ds_checker.specs.Routed.{first_on, refusal_by, sums_at, sums_on, with_legs}
use Rattle.ds_checker.specs.Sums.{AreBelow, IsBefore, IsKept, IsSound, loads_of, no_loads, sum_tests, sums_of, sums_tests, with_brought, with_share}
use Rattle.ds_checker.specs.Tests.{first_failed}
use Rattle.ds_checker.specs.declared.load.Loads.{Loads}
use Rattle.ds_checker.specs.declared.refusal.Refusal.{Refusal}
use Rattle.ds_checker.proofs.ChangeLaws.{acceptable-taken, kept-below, kept-long, kept-taken, refused-lasting, rows_long, shape_at, sums-taken, sums_pass}
use Rattle.ds_checker.proofs.RoutedLaws.{routed-added, routed-brought, routed-inside, routed-least}
use Rattle.ds_checker.proofs.RoutedPlaceLaws.{length-with_legs}
use Rattle.ds_checker.proofs.WalkLaws.{below-on, held-at, walk-tests}
use Rattle.ds_checker.proofs.CheckLaws.{told_tests}

-- ---- what meters answer names no contract
nameless_at : (entry : List ℕ × Meter) (l : Loads) (refusal : Option Refusal) → refusal ≡ first_failed (sum_tests entry l) → IfSome refusal IsNameless
nameless_at entry l refusal is =
    subst (λ r. IfSome r IsNameless) (sym is) (told_tests IsNameless (sum_tests entry l) ((λ needed given. tt), ((λ needed given. tt), ((λ needed given. tt), ((λ needed given. tt), tt)))))

pub nameless-by : (entry : Option (List ℕ × Meter)) (l : Loads) (refusal : Option Refusal) → refusal ≡ refusal_by entry l → IfSome refusal IsNameless
nameless-by None l refusal is = subst (λ r. IfSome r IsNameless) (sym is) tt
nameless-by (Some entry) l refusal is = nameless_at entry l refusal is

lower_nameless : (p : Bool) (a b : ℕ × Refusal) → IsNameless a.1 → IsNameless b.1 → IfSome (if p then Some b else Some a) (λ f. IsNameless f.1)
lower_nameless true a b own other = other
lower_nameless false a b own other = own

pub nameless-next : (first next : Option (ℕ × Refusal)) (place : ℕ) (refusal : Option Refusal) → IfSome first (λ f. IsNameless f.1) → IfSome refusal IsNameless
    → next ≡ earlier first (at_place place refusal) → IfSome next (λ f. IsNameless f.1)
nameless-next first next place refusal own other is = subst (λ f. IfSome f (λ f. IsNameless f.1)) (sym is) (both first refusal own other)
  where
    both : (first : Option (ℕ × Refusal)) (refusal : Option Refusal) → IfSome first (λ f. IsNameless f.1) → IfSome refusal IsNameless
        → IfSome (earlier first (at_place place refusal)) (λ f. IsNameless f.1)
    both None None own other = tt
    both None (Some r) own other = other
    both (Some f) None own other = own
    both (Some f) (Some r) own other = lower_nameless (nat_lt place f.0) f (place, r) own other

-- ---- a table with one contract left out
pub rest-domain : (t : Table) (left_out : Option ℕ) → (rest_of t left_out).domain ≡ t.domain
rest-domain t None = refl
rest-domain t (Some i) = refl

first_of : (contracts : List Contract) → 0 < length contracts → Contract
first_of [] some = absurd (omega (arith, some))
first_of (c ∷ contracts) some = c

pub rest-acceptable : (t : Table) (left_out : Option ℕ) → IfSome left_out (λ i. i < length t.contracts) → IsAcceptable t → IsAcceptable (rest_of t left_out)
rest-acceptable t None inside met = met
rest-acceptable t (Some i) inside met = acceptable-taken t i (first_of t.contracts (omega (arith, inside))) [] inside met

kept_itself : (t : Table) (sums : List Loads) → IsKept t sums → IsKept t (loads_of t)
kept_itself t sums kept = record { sums = refl; small = kept.small; short = kept.short }

rest_kept : (t : Table) (sums : List Loads) (left_out : Option ℕ) → IsSound t sums → IsKept (rest_of t left_out) (loads_of (rest_of t left_out))
rest_kept t sums None sound = kept_itself t sums sound.kept
rest_kept t sums (Some i) sound =
    kept-taken t i sums (loads_of (without_contract t i)) (rows_long t.domain t.contracts t.certificate sound.acceptable.0) sound.kept refl

pub rest-sound : (t : Table) (sums : List Loads) (left_out : Option ℕ) → IfSome left_out (λ i. i < length t.contracts) → IsSound t sums
    → IsSound (rest_of t left_out) (loads_of (rest_of t left_out))
rest-sound t sums left_out inside sound =
    record { acceptable = rest-acceptable t left_out inside sound.acceptable; kept = rest_kept t sums left_out sound }

rest_few : (t : Table) (left_out : Option ℕ) → IfSome left_out (λ i. i < length t.contracts) → length t.contracts < 2 ^ 64 → length (rest_of t left_out).contracts < 2 ^ 64
rest_few t None inside few = few
rest_few t (Some i) inside few = omega (arith, few, length-remove t.contracts i inside)

rest_long : (t : Table) (left_out : Option ℕ) → length (loads_of (rest_of t left_out)) ≡ length t.domain.meters
rest_long t left_out =
    length-map (rest_of t left_out).domain.meters (λ entry. sums_of entry.1.skew (shares_at (rest_of t left_out).domain entry.0 (rest_of t left_out).contracts (rest_of t left_out).certificate))
    ∙ ap (λ (d : Domain). length d.meters) (rest-domain t left_out)

rest_passed : (t : Table) (left_out : Option ℕ) → IsAcceptable (rest_of t left_out) → first_failed (sums_tests t.domain.meters (loads_of (rest_of t left_out))) ≡ None
rest_passed t None met = sums_pass t (loads_of t) met refl
rest_passed t (Some i) met = sums_pass (without_contract t i) (loads_of (without_contract t i)) met refl

-- ---- what is left out was added along its route to what the rest brings
room_of : (t : Table) (sums : List Loads) (left_out : Option ℕ) → IfSome left_out (λ i. i < length t.contracts) → IsSound t sums → length t.contracts < 2 ^ 64
    → AllByRecursion (AreBelow (2 ^ 120)) (loads_of (rest_of t left_out))
room_of t sums left_out inside sound few =
    let rest = rest_of t left_out in
    kept-below rest (loads_of rest) (rest_few t left_out inside few) (rest_kept t sums left_out sound)

pub none-left : (t : Table) (sums : List Loads) (left_out : Option ℕ) (brought : Option Brought) → left_out ≡ None → brought ≡ None → IsSound t sums → length t.contracts < 2 ^ 64
    → IsLeft brought (loads_of t) (loads_of (rest_of t left_out))
none-left t sums left_out brought none nothing sound few =
    subst (λ o. IsLeft brought (loads_of t) (loads_of (rest_of t o))) (sym none)
    (subst (λ o. IsLeft o (loads_of t) (loads_of t)) (sym nothing) (record { added = refl; once = tt; room = room_of t sums None tt sound few }))

pub one-left : (t : Table) (sums : List Loads) (left_out : Option ℕ) (i : ℕ) (c : Contract) (route : Route) (row behind : List Bound) (source : Source) (peaked : Bool) (legs : List Leg)
    → left_out ≡ Some i → i < length t.contracts → IsSound t sums → length t.contracts < 2 ^ 64 → IsDistinct bytes_eq (keys_of t.domain.meters)
    → c ≡ get_or t.contracts i c → row ≡ get_or t.certificate i row → route ≡ route_of t.domain c → IsRoute route
    → source ≡ source_on t.domain route c.terms → peaked ≡ has_peak c.terms → legs ≡ route.legs → behind ≡ drop 1 row
    → IsLeft (Some (record { legs = legs; bounds = behind; source = source; has_peak = peaked })) (loads_of t) (loads_of (rest_of t left_out))
one-left t sums left_out i c route row behind source peaked legs at inside sound few distinct is_contract is_row is_route kept is_source is_peaked is_legs is_behind =
    let before = loads_of (without_contract t i) in
    let long = rows_long t.domain t.contracts t.certificate sound.acceptable.0 in
    let added : IsBefore (λ name. share_of t.domain name (get_or t.contracts i c) (get_or t.certificate i row)) (keys_of t.domain.meters) (loads_of t) before =
    (rest_long t (Some i) ∙ sym (rest_long t None), sums-taken t.domain t.contracts t.certificate i c row t.domain.meters inside long) in
    let own : IsBefore (λ name. share_of t.domain name c row) (keys_of t.domain.meters) (loads_of t) before =
    subst (λ r. IsBefore (λ name. share_of t.domain name c r) (keys_of t.domain.meters) (loads_of t) before) (sym is_row)
    (subst (λ own. IsBefore (λ name. share_of t.domain name own (get_or t.certificate i row)) (keys_of t.domain.meters) (loads_of t) before) (sym is_contract) added) in
    let shape = subst (HasShape t.domain c) (sym is_row)
    (subst (λ own. HasShape t.domain own (get_or t.certificate i row)) (sym is_contract) (shape_at t.domain t.contracts t.certificate i c row sound.acceptable.0 inside)) in
    subst (λ o. IsLeft (Some (record { legs = legs; bounds = behind; source = source; has_peak = peaked })) (loads_of t) (loads_of (rest_of t o))) (sym at)
    (record {
      added = routed-added t.domain c route source peaked legs row behind (loads_of t) before is_route is_source is_peaked is_legs is_behind shape distinct (rest_long t None) own;
      once = subst (λ list. IsDistinct nat_eq (places_of list)) (sym is_legs) kept.once;
      room = room_of t sums (Some i) inside sound few;
    })

-- the sums at a place are what they were before, with what was brought there
held_by : (held : Option Brought) (before : List Loads) (place : ℕ) (l : Loads) → place < length before → IfSome held (λ own. IsDistinct nat_eq (places_of own.legs))
    → get_or (with_held held before) place l ≡ fold with_share (get_or before place l) (brought_at place held)
held_by None before place l inside once = refl
held_by (Some held) before place l inside once = held-at place held.legs held.bounds held.source held.has_peak before l inside once

length-held : (held : Option Brought) (before : List Loads) → length (with_held held before) ≡ length before
length-held None before = refl
length-held (Some held) before = length-with_legs held.source held.has_peak held.legs held.bounds before

pub left-long : (held : Option Brought) (sums before : List Loads) → IsLeft held sums before → length before ≡ length sums
left-long held sums before left = sym (ap length left.added ∙ length-held held before)

pub left-here : (held : Option Brought) (sums before : List Loads) (place : ℕ) (l : Loads) → IsLeft held sums before → place < length sums → l ≡ get_or sums place l
    → l ≡ fold with_share (sums_at before place) (brought_at place held)
left-here held sums before place l left inside is =
    let within : place < length before = omega (arith, inside, left-long held sums before left) in
    is ∙ ap (λ list. get_or list place l) left.added ∙ held_by held before place l within left.once
    ∙ ap (λ x. fold with_share x (brought_at place held)) (get_or_default before place l (no_loads 0) within)

-- ---- a contract beside that rest
-- a table has sums of each meter that a route leads to
pub has-places : (t : Table) (sums : List Loads) (c : Contract) (route : Route) (legs : List Leg) → IsSound t sums → IsTrue (fits t.domain c) → route ≡ route_of t.domain c → IsRoute route
    → legs ≡ route.legs → HasPlaces legs sums
has-places t sums c route legs sound fit is_route kept is_legs =
    subst (λ list. HasPlaces list sums) (sym is_legs)
    (kept.few, subst (λ n. AreInside n route.legs) (sym (kept-long t sums sound.kept)) (routed-inside t.domain c route is_route fit))

pub beside-made : (t : Table) (sums given along : List Loads) (left_out : Option ℕ) (c : Contract) (route : Route) (held : Option Brought) → IfSome left_out (λ i. i < length t.contracts)
    → IsSound t sums → IsTrue (fits t.domain c) → route ≡ route_of t.domain c → given ≡ loads_of t → IsLeft held given (loads_of (rest_of t left_out))
    → along ≡ sums_on route.legs (loads_of (rest_of t left_out)) → IsBeside t left_out c route along
beside-made t sums given along left_out c route held inside sound fit is_route is_given left is_along =
    let rest = loads_of (rest_of t left_out) in
    let legs_inside = subst (λ n. AreInside n route.legs) (sym (rest_long t left_out)) (routed-inside t.domain c route is_route fit) in
    record {
      fit = fit;
      is_route = is_route;
      sound = rest-sound t sums left_out inside sound;
      is_sums = is_along;
      room = subst (AllByRecursion (AreBelow (2 ^ 120))) (sym is_along) (below-on (2 ^ 120) route.legs rest legs_inside left.room);
    }

-- what is found along its route is what stands against the rest with it
refused_by : (t : Table) (left_out : Option ℕ) (c : Contract) (lifetime : Span) (found : Option Refusal) → IsSound (rest_of t left_out) (loads_of (rest_of t left_out)) → IsTrue (fits t.domain c)
    → found ≡ first_failed (sums_tests t.domain.meters (with_brought (λ name. share_of t.domain name c (least_of t.domain c)) (keys_of t.domain.meters) (loads_of (rest_of t left_out))))
    → found ≡ refusal_of (with_contract (rest_of t left_out) (lasting lifetime c) (least_of (rest_of t left_out).domain (lasting lifetime c)))
refused_by t None c lifetime found sound fit is =
    refused-lasting t.domain t.contracts t.certificate (loads_of t) (loads_of t) t c lifetime found sound refl refl fit is
refused_by t (Some i) c lifetime found sound fit is =
    let rest = without_contract t i in
    refused-lasting t.domain rest.contracts rest.certificate (loads_of rest) (loads_of rest) rest c lifetime found sound refl refl fit is

-- what is found along the route of a contract by its bounds is the first meter that refuses it
pub routed-refused : (d : Domain) (c : Contract) (route : Route) (source : Source) (peaked : Bool) (legs : List Leg) (row behind : List Bound) (sums : List Loads) (found : Option Refusal)
    → found ≡ option_map (λ f. f.1) (first_on d.meters source peaked legs (sums_on legs sums) behind) → route ≡ route_of d c → IsRoute route → source ≡ source_on d route c.terms
    → peaked ≡ has_peak c.terms → legs ≡ route.legs → behind ≡ drop 1 row → HasShape d c row → IsDistinct bytes_eq (keys_of d.meters) → length sums ≡ length d.meters
    → first_failed (sums_tests d.meters sums) ≡ None
    → found ≡ first_failed (sums_tests d.meters (with_brought (λ name. share_of d name c row) (keys_of d.meters) sums))
routed-refused d c route source peaked legs row behind sums found is is_route kept is_source is_peaked is_legs is_behind shape distinct long passed =
    is
    ∙ walk-tests d.meters source peaked legs behind sums (subst (AreInside (length d.meters)) (sym is_legs) (routed-inside d c route is_route shape.0))
    (subst (λ list. IsDistinct nat_eq (places_of list)) (sym is_legs) kept.once) long passed
    ∙ ap (λ list. first_failed (sums_tests d.meters list))
    (ap (λ p. with_legs source p legs behind sums) is_peaked ∙ ap (λ list. with_legs source (has_peak c.terms) list behind sums) is_legs
    ∙ routed-brought d c route source row behind sums is_route is_source is_behind shape distinct long)

-- where the first is found along the route, that is what stands against the rest with it
pub beside-first : (t : Table) (left_out : Option ℕ) (c : Contract) (route : Route) (own sums : List Loads) (legs : List Leg) (d : Domain) (offer : Offer) (terms : Terms) (lifetime : Span)
    (source : Source) (peaked : Bool) → ◌≡◌ {A = Offer} (record { table = rest_of t left_out; contract = c }) offer → IsBeside t left_out c route own → IsRoute route → d ≡ t.domain
    → sums ≡ own → legs ≡ route.legs → source ≡ source_on d route terms → peaked ≡ has_peak terms → IsDistinct bytes_eq (keys_of d.meters)
    → option_map (λ f. f.1) (first_on d.meters source peaked legs sums (least_behind source (jitters_in legs) (entering source)))
    ≡ refusal_of (with_contract offer.table (lasting lifetime (on_terms terms offer.contract)) (least_of offer.table.domain (lasting lifetime (on_terms terms offer.contract))))
beside-first t left_out c route own sums legs d offer terms lifetime source peaked is_offer beside kept is_domain is_sums is_legs is_source is_peaked distinct =
    let rest = loads_of (rest_of t left_out) in
    let least = least_behind source (jitters_in legs) (entering source) in
    let long = rest_long t left_out in
    let apart = subst (λ (x : Domain). IsDistinct bytes_eq (keys_of x.meters)) is_domain distinct in
    let there : option_map (λ f. f.1) (first_on t.domain.meters source peaked legs sums least)
    ≡ first_failed (sums_tests t.domain.meters (with_brought (λ name. share_of t.domain name (on_terms terms c) (least_of t.domain (on_terms terms c))) (keys_of t.domain.meters) rest)) =
    ap (λ list. option_map (λ f. f.1) (first_on t.domain.meters source peaked legs list least)) (is_sums ∙ beside.is_sums ∙ ap (λ list. sums_on list rest) (sym is_legs))
    ∙ walk-tests t.domain.meters source peaked legs least rest
    (subst (AreInside (length t.domain.meters)) (sym is_legs) (routed-inside t.domain c route beside.is_route beside.fit))
    (subst (λ list. IsDistinct nat_eq (places_of list)) (sym is_legs) kept.once) long (rest_passed t left_out beside.sound.acceptable)
    ∙ ap (λ list. first_failed (sums_tests t.domain.meters list))
    (routed-least t.domain c route terms source peaked legs rest beside.is_route
    (is_source ∙ ap (λ (x : Domain). source_on x route terms) is_domain) is_peaked is_legs beside.fit apart long) in
    subst (λ (x : Domain). option_map (λ f. f.1) (first_on x.meters source peaked legs sums least)
    ≡ refusal_of (with_contract offer.table (lasting lifetime (on_terms terms offer.contract)) (least_of offer.table.domain (lasting lifetime (on_terms terms offer.contract))))) (sym is_domain)
    (subst (λ (o : Offer). option_map (λ f. f.1) (first_on t.domain.meters source peaked legs sums least)
    ≡ refusal_of (with_contract o.table (lasting lifetime (on_terms terms o.contract)) (least_of o.table.domain (lasting lifetime (on_terms terms o.contract))))) is_offer
    (refused_by t left_out (on_terms terms c) lifetime _ beside.sound beside.fit there))

pub none-some : (x y : Option Refusal) (none : Bool) → is_some x ≡ not none → is_some x ≡ is_some y → none ≡ is_none y
none-some None None true is same = refl
none-some None None false is same = absurd cc
none-some None (Some y) none is same = absurd cc
none-some (Some x) None none is same = absurd cc
none-some (Some x) (Some y) true is same = absurd cc
none-some (Some x) (Some y) false is same = refl

-- a place that is told is one of a contract
pub inside_of : (place : Option ℕ) (i n : ℕ) → IfSome place (λ p. p < n) → place ≡ Some i → i < n
inside_of place i n inside at = subst (λ o. IfSome o (λ p. p < n)) at inside

pub row-within : (t : Table) (rows : List (List Bound)) (i : ℕ) → IsAcceptable t → rows ≡ t.certificate → i < length t.contracts → i < length rows
row-within t rows i met is inside = omega (arith, inside, ap length is, rows_long t.domain t.contracts t.certificate met.0)

pub row-some : (t : Table) (rows : List (List Bound)) (i : ℕ) (c : Contract) (row hops : List Bound) → IsAcceptable t → rows ≡ t.certificate → i < length t.contracts → row ≡ get_or rows i row
    → hops ≡ row → 1 ≤ length hops
row-some t rows i c row hops met is inside is_row is_hops =
    let shape = shape_at t.domain t.contracts t.certificate i c row met.0 inside in
    let same : hops ≡ get_or t.certificate i row = is_hops ∙ is_row ∙ ap (λ list. get_or list i row) is in
    omega (arith, shape.1, ap length same)
