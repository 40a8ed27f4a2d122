-- How many contracts like one fit beside a table is found by the sums along its path.
use Rattle.std.proofs.Common.{arith, ◌≡◌, ℕ, zero, suc, ◌+◌, ◌-◌, ◌*◌, ◌<◌, ◌≤◌, Bool, true, false, ◌&&◌, nat_eq, if◌then◌else◌, List, [], ◌∷◌, ◌++◌, length, get_or, replicate, slice_get, Option, None, Some, ◌⊎◌, inl, inr, refl, sym, ap, subst, ◌∙◌, is_none, unwrap_or, ◌^◌}
use Rattle.std.specs.List.{AllByRecursion, IsDistinct, fold}
use Rattle.std.specs.Option.{option_or}
use Rattle.std.proofs.Math.Nat.{mul-le-mul_left, mul-le-mul_right}
use Rattle.std.proofs.lemmas.Bool.{and_from, and_parts, cases_Bool, eq-eqb, eqb-true, le-leb, leb-true}
use Rattle.std.proofs.lemmas.List.{length-map, length-replicate}
use Rattle.std.proofs.lemmas.Option.{slice_get-get_or}
use Rattle.ds_domain_base.specs.Limits.{green_limit}
use Rattle.ds_domain_base.specs.Routes.{AreInside, jitters_in, places_of, route_of}
use Rattle.ds_domain_base.specs.Sent.{has_peak}
use Rattle.ds_domain_base.specs.declared.contract.Contract.{Contract}
use Rattle.ds_domain_base.specs.declared.parts.Meter.{Meter}
use Rattle.ds_domain_base.specs.declared.route.Leg.{Leg}
use Rattle.ds_certificate.specs.Bounds.{HasShape, IsCertificate, delayed, entering, fits, least, least_behind, least_of}
use Rattle.ds_certificate.specs.Columns.{Bound}
use Rattle.ds_certificate.specs.declared.source.Source.{Source}
use Rattle.ds_checker.specs.Acceptance.{IsAcceptable, Table, refusal_of}
use Rattle.ds_checker.proofs.AcceptanceLaws.{acceptable, unrefused}
use Rattle.ds_checker.specs.Besides.{IsOffered, Offer}
use Rattle.ds_checker.specs.Growths.{growth_by, growths_of, growths_on, no_growth}
use Rattle.ds_checker.specs.Loads.{shares_at}
use Rattle.ds_checker.specs.Routed.{bound_at, share_with, sums_on}
use Rattle.ds_checker.specs.Sums.{loads_of, no_loads, share_by, sum_tests, sums_of, sums_tests, with_share}
use Rattle.ds_checker.specs.Tests.{first_failed}
use Rattle.ds_checker.specs.declared.headroom.Growth.{Growth}
use Rattle.ds_checker.specs.declared.headroom.Utilization.{Utilization}
use Rattle.ds_checker.specs.declared.load.Loads.{Loads}
use Rattle.ds_checker.specs.declared.refusal.Refusal.{Refusal}
use Rattle.ds_checker.proofs.BoundLaws.{first_failed-append}
use Rattle.ds_checker.proofs.ChangeLaws.{rows_long, sums_pass}
use Rattle.ds_checker.proofs.LoadLaws.{tests_ended}
use Rattle.ds_checker.proofs.PlaceLaws.{answers, answers-at, entry_of, none-at, none_of}
use Rattle.ds_checker.proofs.RoutedLaws.{routed-inside}
use Rattle.ds_checker.proofs.RoutedPlaceLaws.{AreApart}
use Rattle.ds_checker.proofs.WalkLaws.{at-none}
use Rattle.ds_quotes.specs.Quotes.{value_limit}
use Rattle.ds_quotes.specs.Counts.{IsCount, IsLike, all_grow_within, count_of, first_rate_of, grows_within, has_room, is_carried, rate_by, with_each}
use Rattle.ds_quotes.specs.Passing.{IsDownward, IsPassing}
use Rattle.ds_quotes.proofs.AlikeLaws.{bounds_on, each-at, each-passes, keeps, like-is, none-more, passes-each, step, times, way}
use Rattle.ds_quotes.proofs.GrowthLaws.{add, meter-passed, meter-passes}
use Rattle.ds_quotes.proofs.QuoteLaws.{cases_≤, last-of, none_by}

-- ---- the tests of all meters, place by place
passes-at : (meters : List (List ℕ × Meter)) (sums : List Loads) (j : ℕ) (l : Loads) (e : List ℕ × Meter) → first_failed (sums_tests meters sums) ≡ None → j < length meters
    → length sums ≡ length meters → first_failed (sum_tests (get_or meters j e) (get_or sums j l)) ≡ None
passes-at meters sums j l e passed inside long =
    sym (answers-at meters sums j l e inside (omega (arith, inside, long))) ∙ none-at (answers meters sums) j (none_of meters sums passed)

all-at : (meters : List (List ℕ × Meter)) (sums : List Loads) (l : Loads) (e : List ℕ × Meter) → length sums ≡ length meters
    → ((j : ℕ) → j < length meters → first_failed (sum_tests (get_or meters j e) (get_or sums j l)) ≡ None) → first_failed (sums_tests meters sums) ≡ None
unfolding sums_tests
all-at [] sums l e long each = tests_ended [] sums (inl refl)
all-at (m ∷ meters) [] l e long each = absurd (omega (arith, long))
all-at (m ∷ meters) (own ∷ sums) l e long each =
    first_failed-append (sum_tests m own) (sums_tests meters sums)
    ∙ ap (λ f. option_or f (first_failed (sums_tests meters sums))) (each 0 (omega arith))
    ∙ all-at meters sums l e (omega (arith, long)) (λ j inside. each (suc j) (omega (arith, inside)))

-- ---- what comes to a meter where no leg leads, and where one does
times-id : (n : ℕ) (x : Loads) → times n (λ l. l) x ≡ x
times-id zero x = refl
times-id (suc n) x = times-id n x

abbrev stepped : Source → Bool → Option Bound → Loads → Loads
stepped source peaked into l = fold with_share l (share_by source peaked into)

times-none : (source : Source) (peaked : Bool) (into : Option Bound) (n : ℕ) (x : Loads) → into ≡ None → times n (stepped source peaked into) x ≡ x
times-none source peaked into n x none = ap (λ b. times n (stepped source peaked b) x) none ∙ times-id n x

apart-none : (place : ℕ) (legs : List Leg) (bounds : List Bound) → AreApart place legs → bound_at place legs bounds ≡ None
unfolding bound_at
apart-none place [] bounds apart = at-none place [] bounds (inl refl)
apart-none place (leg ∷ legs) [] apart = at-none place (leg ∷ legs) [] (inr refl)
apart-none place (leg ∷ legs) (b ∷ bounds) apart = rw apart.0 (apart-none place legs bounds apart.1)

same_place : (place : ℕ) → nat_eq place place ≡ true
same_place place = eq-eqb place place refl

-- ---- along legs
abbrev Passes : List (List ℕ × Meter) → (List ℕ × Meter) → List Loads → (ℕ → Loads → Loads) → Type 0
Passes meters e sums change = (j : ℕ) → j < length meters → first_failed (sum_tests (get_or meters j e) (change j (get_or sums j (no_loads 0)))) ≡ None

told : (meters : List (List ℕ × Meter)) (e : List ℕ × Meter) (place n : ℕ) (l : Loads) (source : Source) (peaked : Bool) (b : Bound) → place < length meters
    → grows_within n (growth_by (slice_get meters place) l (share_with source peaked b)) ≡ grows_within n (growth_by (Some (get_or meters place e)) l (share_with source peaked b))
told meters e place n l source peaked b inside =
    ap (λ entry. grows_within n (growth_by entry l (share_with source peaked b))) (slice_get-get_or meters place e inside)

along-passed : (meters : List (List ℕ × Meter)) (e : List ℕ × Meter) (source : Source) (peaked : Bool) (n : ℕ) (sums : List Loads) (legs : List Leg) (bounds : List Bound)
    → AreInside (length meters) legs → IsDistinct nat_eq (places_of legs) → Passes meters e sums (λ j l. l)
    → Passes meters e sums (λ j. times (suc n) (stepped source peaked (bound_at j legs bounds)))
    → all_grow_within n (growths_on meters source peaked legs (sums_on legs sums) bounds) ≡ true
unfolding growths_on bound_at IsDistinct
along-passed meters e source peaked n sums [] bounds inside once base each = refl
along-passed meters e source peaked n sums (leg ∷ legs) [] inside once base each = refl
along-passed meters e source peaked n sums (leg ∷ legs) (b ∷ bounds) inside once base each =
    let l = get_or sums leg.place (no_loads 0) in
    let entry = get_or meters leg.place e in
    let here : first_failed (sum_tests entry (times (suc n) (add (share_with source peaked b)) l)) ≡ None =
    sym (ap (λ x. first_failed (sum_tests entry (times (suc n) (stepped source peaked (if x then Some b else bound_at leg.place legs bounds)) l))) (same_place leg.place)) ∙ each leg.place inside.0 in
    and_from _ _ (told meters e leg.place n l source peaked b inside.0 ∙ meter-passed entry n l (share_with source peaked b) here)
    (along-passed meters e source peaked n sums legs bounds inside.1 once.1 base (λ j within. behind j within (nat_eq j leg.place) refl))
  where
    behind : (j : ℕ) → j < length meters → (x : Bool) → nat_eq j leg.place ≡ x
        → first_failed (sum_tests (get_or meters j e) (times (suc n) (stepped source peaked (bound_at j legs bounds)) (get_or sums j (no_loads 0)))) ≡ None
    behind j within true is =
        let none : bound_at j legs bounds ≡ None = ap (λ p. bound_at p legs bounds) (eqb-true j leg.place is) ∙ apart-none leg.place legs bounds once.0 in
        ap (λ x. first_failed (sum_tests (get_or meters j e) x)) (times-none source peaked (bound_at j legs bounds) (suc n) (get_or sums j (no_loads 0)) none) ∙ base j within
    behind j within false is =
        sym (ap (λ x. first_failed (sum_tests (get_or meters j e) (times (suc n) (stepped source peaked (if x then Some b else bound_at j legs bounds)) (get_or sums j (no_loads 0))))) is)
        ∙ each j within

along-passes : (meters : List (List ℕ × Meter)) (e : List ℕ × Meter) (source : Source) (peaked : Bool) (n : ℕ) (sums : List Loads) (legs : List Leg) (bounds : List Bound)
    → AreInside (length meters) legs → Passes meters e sums (λ j l. l)
    → all_grow_within n (growths_on meters source peaked legs (sums_on legs sums) bounds) ≡ true
    → Passes meters e sums (λ j. times (suc n) (stepped source peaked (bound_at j legs bounds)))
unfolding growths_on bound_at
along-passes meters e source peaked n sums [] bounds inside base all j within =
    ap (λ x. first_failed (sum_tests (get_or meters j e) x)) (times-none source peaked (bound_at j [] bounds) (suc n) (get_or sums j (no_loads 0)) (at-none j [] bounds (inl refl))) ∙ base j within
along-passes meters e source peaked n sums (leg ∷ legs) [] inside base all j within =
    ap (λ x. first_failed (sum_tests (get_or meters j e) x)) (times-none source peaked (bound_at j (leg ∷ legs) []) (suc n) (get_or sums j (no_loads 0)) (at-none j (leg ∷ legs) [] (inr refl))) ∙ base j within
along-passes meters e source peaked n sums (leg ∷ legs) (b ∷ bounds) inside base all j within =
    let l = get_or sums leg.place (no_loads 0) in
    let share = share_with source peaked b in
    let parts = and_parts _ _ all in
    let here : first_failed (sum_tests (get_or meters leg.place e) (times (suc n) (add share) l)) ≡ None =
    meter-passes (get_or meters leg.place e) n l share (sym (told meters e leg.place n l source peaked b inside.0) ∙ parts.0) in
    let test : Bool → Option Refusal =
    λ x. first_failed (sum_tests (get_or meters j e) (times (suc n) (stepped source peaked (if x then Some b else bound_at j legs bounds)) (get_or sums j (no_loads 0)))) in
    elim (cases_Bool (nat_eq j leg.place)) [
      | inl is ↦
          ap test is
          ∙ ap (λ p. first_failed (sum_tests (get_or meters p e) (times (suc n) (add share) (get_or sums p (no_loads 0))))) (eqb-true j leg.place is)
          ∙ here
      | inr is ↦ ap test is ∙ along-passes meters e source peaked n sums legs bounds inside.1 base parts.1 j within
    ]

-- ---- so many contracts, each like one
abbrev growths : Table → Contract → List Growth
growths t c = growths_on t.domain.meters (keeps t.domain c) (has_peak c.terms) (way t.domain c) (sums_on (way t.domain c) (loads_of t)) (bounds_on t.domain c)

abbrev offer : Table → Contract → Offer
offer t c = record { table = t; contract = c }

long_of : (t : Table) → length (loads_of t) ≡ length t.domain.meters
long_of t = length-map t.domain.meters (λ entry. sums_of entry.1.skew (shares_at t.domain entry.0 t.contracts t.certificate))

inside_of : (t : Table) (c : Contract) → IsOffered (offer t c) → AreInside (length t.domain.meters) (way t.domain c)
inside_of t c offered = routed-inside t.domain c (route_of t.domain c) refl offered.fit

meter_of : (t : Table) (c : Contract) → IsOffered (offer t c) → List ℕ × Meter
meter_of t c offered = entry_of t.domain.meters (some (way t.domain c) offered.route.some (inside_of t c offered))
  where
    some : (legs : List Leg) → 1 ≤ length legs → AreInside (length t.domain.meters) legs → 0 < length t.domain.meters
    some [] none inside = absurd (omega (arith, none))
    some (leg ∷ legs) one inside = omega (arith, inside.0)

base_of : (t : Table) (c : Contract) (offered : IsOffered (offer t c)) → Passes t.domain.meters (meter_of t c offered) (loads_of t) (λ j l. l)
base_of t c offered j within =
    passes-at t.domain.meters (loads_of t) j (no_loads 0) (meter_of t c offered) (sums_pass t (loads_of t) offered.acceptable refl) within (long_of t)

at_each : (t : Table) (c : Contract) (offered : IsOffered (offer t c)) (others : List Contract) (n j : ℕ) → AllByRecursion (IsLike c) others → length others ≡ suc n
    → j < length t.domain.meters
    → get_or (loads_of (with_each t others)) j (no_loads 0) ≡ times (suc n) (step t.domain c j) (get_or (loads_of t) j (no_loads 0))
at_each t c offered others n j like many within =
    each-at t c others j (no_loads 0) offered.fit offered.apart offered.route (rows_long t.domain t.contracts t.certificate offered.acceptable.0) like within
    ∙ ap (λ m. times m (step t.domain c j) (get_or (loads_of t) j (no_loads 0))) many

carried-each : (t : Table) (c : Contract) (offered : IsOffered (offer t c)) (others : List Contract) (n : ℕ) → AllByRecursion (IsLike c) others → length others ≡ suc n
    → all_grow_within n (growths t c) ≡ true → IsAcceptable (with_each t others)
carried-each t c offered others n like many all =
    let e = meter_of t c offered in
    let meters = t.domain.meters in
    passes-each t c others offered.acceptable offered.fit like
    (all-at meters (loads_of (with_each t others)) (no_loads 0) e (long_of (with_each t others))
    (λ j within. ap (λ x. first_failed (sum_tests (get_or meters j e) x)) (at_each t c offered others n j like many within)
    ∙ along-passes meters e (keeps t.domain c) (has_peak c.terms) n (loads_of t) (way t.domain c) (bounds_on t.domain c) (inside_of t c offered) (base_of t c offered) all j within))

each-carried : (t : Table) (c : Contract) (offered : IsOffered (offer t c)) (others : List Contract) (n : ℕ) → AllByRecursion (IsLike c) others → length others ≡ suc n
    → IsAcceptable (with_each t others) → all_grow_within n (growths t c) ≡ true
each-carried t c offered others n like many met =
    let e = meter_of t c offered in
    let meters = t.domain.meters in
    along-passed meters e (keeps t.domain c) (has_peak c.terms) n (loads_of t) (way t.domain c) (bounds_on t.domain c) (inside_of t c offered) offered.route.once
    (base_of t c offered)
    (λ j within. ap (λ x. first_failed (sum_tests (get_or meters j e) x)) (sym (at_each t c offered others n j like many within))
    ∙ passes-at meters (loads_of (with_each t others)) j (no_loads 0) e (each-passes t others met) within (long_of (with_each t others)))

-- ---- behind the path's end nothing grows
fill : (n k : ℕ) → all_grow_within n (replicate k no_growth) ≡ true
fill n zero = refl
fill n (suc k) =
    let none : has_room n (record { taken = 0; available = 0 }) (record { taken = 0; available = 0 }) ≡ true = le-leb _ _ (omega arith) in
    and_from _ _ (and_from _ _ none (and_from _ _ none (and_from _ _ none none))) (fill n k)

filled : (n k : ℕ) (xs : List Growth) → all_grow_within n (xs ++ replicate k no_growth) ≡ all_grow_within n xs
filled n k [] = fill n k
filled n k (x ∷ xs) = ap (λ b. grows_within n x && b) (filled n k xs)

-- ---- fewer grow less
room-less : (value more : ℕ) (one two : Utilization) → value ≤ more → has_room more one two ≡ true → has_room value one two ≡ true
room-less value more one two order room =
    let step = two.taken - one.taken in
    le-leb _ _ (omega (arith, leb-true _ _ room, mul-le-mul_right step order))

grows-less : (value more : ℕ) (g : Growth) → value ≤ more → grows_within more g ≡ true → grows_within value g ≡ true
grows-less value more g order all =
    let one = and_parts _ _ all in
    let two = and_parts _ _ one.1 in
    let three = and_parts _ _ two.1 in
    and_from _ _ (room-less value more g.one.green_rate g.two.green_rate order one.0)
    (and_from _ _ (room-less value more g.one.green_burst g.two.green_burst order two.0)
    (and_from _ _ (room-less value more g.one.all_rate g.two.all_rate order three.0) (room-less value more g.one.all_burst g.two.all_burst order three.1)))

pub all-less : (value more : ℕ) (growths : List Growth) → value ≤ more → all_grow_within more growths ≡ true → all_grow_within value growths ≡ true
all-less value more [] order all = refl
all-less value more (g ∷ growths) order all =
    let parts = and_parts _ _ all in
    and_from _ _ (grows-less value more g order parts.0) (all-less value more growths order parts.1)

-- ---- no more fit than the first meter gives green packets of bits a second
rate-bound : (meters : List (List ℕ × Meter)) (source : Source) (peaked : Bool) (n : ℕ) (sums : List Loads) (legs : List Leg) (before : Bound) → AreInside (length meters) legs
    → 1 ≤ length legs → 1 ≤ source.green.rate
    → all_grow_within n (growths_on meters source peaked legs (sums_on legs sums) (least_behind source (jitters_in legs) before)) ≡ true
    → n < first_rate_of meters legs
unfolding growths_on least_behind
rate-bound meters source peaked n sums [] before inside some rated all = absurd (omega (arith, some))
rate-bound meters source peaked n sums (leg ∷ legs) before inside some rated all =
    let entry = get_or meters leg.place (entry_of meters (omega (arith, inside.0))) in
    let bound = delayed source leg.jitter before in
    let own = get_or sums leg.place (no_loads 0) in
    let found : slice_get meters leg.place ≡ Some entry = slice_get-get_or meters leg.place (entry_of meters (omega (arith, inside.0))) inside.0 in
    let first : grows_within n (growth_by (Some entry) own (share_with source peaked bound)) ≡ true =
    sym (ap (λ e. grows_within n (growth_by e own (share_with source peaked bound))) found) ∙ (and_parts _ _ all).0 in
    let room : own.green.rate + source.green.rate + n * (own.green.rate + source.green.rate + source.green.rate - (own.green.rate + source.green.rate))
    ≤ (green_limit entry.1.parameters).rate = leb-true _ _ (and_parts _ _ first).0 in
    let step : own.green.rate + source.green.rate + source.green.rate - (own.green.rate + source.green.rate) ≡ source.green.rate = omega arith in
    let grown : own.green.rate + source.green.rate + n * source.green.rate ≤ (green_limit entry.1.parameters).rate =
    subst (λ s. own.green.rate + source.green.rate + n * s ≤ (green_limit entry.1.parameters).rate) step room in
    let each = mul-le-mul_left n rated in
    subst (λ e. n < rate_by e) (sym found) (omega (arith, grown, each, rated))

-- ---- the count
pub none-fit : (t : Table) (c : Contract) → IsAcceptable t → fits t.domain c ≡ false → IsCount t c 0
none-fit t c met unfits [] like = (λ now. omega arith, λ none. subst IsAcceptable (sym (none-more t)) met)
none-fit t c met unfits (o ∷ others) like = (λ now. absurd (no now), λ none. absurd (omega (arith, none)))
  where
    shape_of : (contracts : List Contract) (rows : List (List Bound)) → length rows ≡ length contracts
        → IsCertificate t.domain (contracts ++ o ∷ others) (rows ++ (least_of t.domain o ∷ least t.domain others)) → HasShape t.domain o (least_of t.domain o)
    shape_of [] [] long met = met.0.0
    shape_of [] (row ∷ rows) long met = absurd (omega (arith, long))
    shape_of (own ∷ contracts) [] long met = absurd (omega (arith, long))
    shape_of (own ∷ contracts) (row ∷ rows) long met = shape_of contracts rows (omega (arith, long)) met.1

    no : IsAcceptable (with_each t (o ∷ others)) → ⊥
    no now =
        let fit : fits t.domain o ≡ true = (shape_of t.contracts t.certificate (rows_long t.domain t.contracts t.certificate met.0) now.0).0 in
        let both : false ≡ true = sym unfits ∙ sym (ap (fits t.domain) (like-is c o like.0)) ∙ fit in
        cc

pub counted : (t : Table) (c : Contract) (most count : ℕ) → IsOffered (offer t c) → most ≡ first_rate_of t.domain.meters (way t.domain c)
    → IsPassing most (λ value. all_grow_within value (growths_of (offer t c))) count → IsCount t c count
counted t c most count offered is found [] like = (λ now. omega arith, λ none. subst IsAcceptable (sym (none-more t)) offered.acceptable)
counted t c most count offered is found (o ∷ others) like = (fits_in, fits_too)
  where
    n : ℕ
    n = length others

    whole : (value : ℕ) → all_grow_within value (growths_of (offer t c)) ≡ all_grow_within value (growths t c)
    whole value = filled value (16 - length (way t.domain c)) (growths t c)

    below : all_grow_within n (growths t c) ≡ true → n < most
    below all = subst (λ m. n < m) (sym is)
        (rate-bound t.domain.meters (keeps t.domain c) (has_peak c.terms) n (loads_of t) (way t.domain c) (entering (keeps t.domain c)) (inside_of t c offered) offered.route.some
        offered.least all)

    by : (all_grow_within n (growths t c) ≡ true) → (n < count) ⊎ (count ≤ n) → suc n ≤ count
    by all (inl less) = omega (arith, less)
    by all (inr more) =
        let none : false ≡ true = sym (found.above n more (below all)) ∙ whole n ∙ all in
        absurd cc

    fits_in : IsAcceptable (with_each t (o ∷ others)) → suc n ≤ count
    fits_in now = let all = each-carried t c offered (o ∷ others) n like refl now in by all (cases_≤ n count)

    fits_too : suc n ≤ count → IsAcceptable (with_each t (o ∷ others))
    fits_too less = carried-each t c offered (o ∷ others) n like refl (sym (whole n) ∙ found.below n (omega (arith, less)))

pub downward-count : (growths : List Growth) (limit : ℕ) → IsDownward limit (λ value. all_grow_within value growths)
downward-count growths limit value more order below told = all-less value more growths order told

-- ---- the count is one number
alike : (c : Contract) (n : ℕ) → AllByRecursion (IsLike c) (replicate n c)
alike c zero = tt
alike c (suc n) = (record { port = refl; path = refl; terms = refl }, alike c n)

carried-as : (t : Table) (c : Contract) (most n : ℕ) → IsCount t c most → n ≤ most → is_carried t c n ≡ true
carried-as t c most n is low =
    ap is_none (unrefused (with_each t (replicate n c)) ((is (replicate n c) (alike c n)).1 (omega (arith, low, length-replicate n c))))

refused-as : (t : Table) (c : Contract) (most n : ℕ) → IsCount t c most → most < n → is_carried t c n ≡ false
refused-as t c most n is high = by (is_carried t c n) refl
  where
    by : (b : Bool) → is_carried t c n ≡ b → is_carried t c n ≡ false
    by false is_b = is_b
    by true is_b =
        let met = acceptable (with_each t (replicate n c)) (none_by (refusal_of (with_each t (replicate n c))) is_b) in
        absurd (omega (arith, high, (is (replicate n c) (alike c n)).0 met, length-replicate n c))

pub count-value : (t : Table) (c : Contract) (most : ℕ) → IsCount t c most → most ≤ 10 ^ 13 → most ≡ count_of t c
unfolding value_limit
count-value t c most is low =
    sym (ap (λ o. unwrap_or o 0) (last-of (is_carried t c) (10 ^ 13 + 1) most (carried-as t c most most is (omega arith)) (omega (arith, low)) (λ other more less. refused-as t c most other is more)))
