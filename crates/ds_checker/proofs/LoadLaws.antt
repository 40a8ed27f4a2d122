-- What is added up for each meter, contract by contract and hop by hop.
use Rattle.std.proofs.Common.{arith, ◌≡◌, ℕ, zero, suc, ◌+◌, ◌*◌, ◌^◌, ◌≤◌, ◌<◌, Bool, true, false, nat_eq, ◌||◌, ◌&&◌, not, ◌⊎◌, inl, inr, List, [], ◌∷◌, ◌++◌, length, map, filter, take, drop, append-nil, set, get_or, if◌then◌else◌, Option, None, Some, refl, sym, ap, subst, ◌∙◌, bytes_eq}
use Rattle.std.specs.Option.{option_or}
use Rattle.ds_checker.proofs.BoundLaws.{first_failed-append}
use Rattle.std.specs.List.{AllByRecursion, AllZip, IsDistinct, fold, list_any, position}
use Rattle.std.proofs.lemmas.Slice.Eq.{bytes_eq-Decides}
use Rattle.std.proofs.lemmas.Bool.Decides.{nat_tests, same_from_decides}
use Rattle.std.proofs.lemmas.List.{drop_all, length-drop, take_all}
use Rattle.std.proofs.lemmas.List.Sums.{sum_by-cons}
use Rattle.std.proofs.lemmas.List.Quantifiers.{position-Some}
use Rattle.std.proofs.lemmas.Bool.{and_parts, eqb-true, or_parts}
use Rattle.std.proofs.Math.Bool.{and-false, and-true}
use Rattle.std.proofs.lemmas.Slice.Zip.{AllZip-long}
use Rattle.std.proofs.lemmas.Map.Entries.{length-keys_of}
use Rattle.std.specs.Map.{keys_of}
use Rattle.ds_domain_base.specs.Domains.{Domain}
use Rattle.ds_domain_base.specs.Fitting.{repeats}
use Rattle.ds_domain_base.specs.declared.contract.Contract.{Contract}
use Rattle.ds_domain_base.specs.declared.parts.Meter.{Meter}
use Rattle.ds_certificate.specs.Bounds.{HasShape, fits}
use Rattle.ds_checker.specs.BoundTests.{misfit}
use Rattle.envelope_core.specs.Curve.{Curve, total, widened}
use Rattle.ds_domain_base.specs.Limits.{held_column}
use Rattle.ds_domain_base.specs.Parameters.{Parameters}
use Rattle.ds_domain_base.specs.Parameters.TheVariants.{SrTcm, TrTcm, Rfc4115}
use Rattle.moment_core.specs.declared.column.Column.{Column}
use Rattle.moment_core.specs.declared.column.Column.TheVariants.{Green, All, Excess}
use Rattle.ds_certificate.specs.Columns.{Bound, IsInRange}
use Rattle.ds_certificate.specs.Ranges.{IsModerate}
use Rattle.ds_certificate.proofs.Volumes.{bytes_over_most}
use Rattle.ds_certificate.specs.declared.source.Source.{Source}
use Rattle.ds_checker.specs.Loads.{Share, bound_into, counted, kept, load, shares_at}
use Rattle.ds_checker.specs.Sums.{AreBelow, AreSmall, IsBelow, IsSmall, counted_load, no_loads, nothing, plus, share_by, sum_tests, sums_of, sums_tests, with_brought, with_share}
use Rattle.ds_checker.specs.TableTests.{load_tests, meter_tests, table_tests}
use Rattle.ds_checker.specs.Tests.{first_failed}
use Rattle.ds_checker.specs.declared.load.Loads.{Loads}
use Rattle.ds_checker.specs.declared.refusal.Refusal.{Refusal}

-- of two lists with an item neither is empty
pub neither : {X Y P : Type 0} {x : X} {xs : List X} {y : Y} {ys : List Y} → (x ∷ xs ≡ []) ⊎ (y ∷ ys ≡ []) → P
neither (inl ended) = absurd cc
neither (inr ended) = absurd cc

pub bytes_eq-flip : (a b : List ℕ) → bytes_eq a b ≡ bytes_eq b a
bytes_eq-flip a b = same_from_decides (bytes_eq a b) (bytes_eq b a) (bytes_eq-Decides a b) ((λ p. sym ((bytes_eq-Decides b a).0 p)), (λ p. (bytes_eq-Decides b a).1 (sym p)))

-- as many as there were
pub length-with_brought : (brought : List ℕ → List Share) (names : List (List ℕ)) (loads : List Loads) → length loads ≡ length names
    → length (with_brought brought names loads) ≡ length names
unfolding with_brought
length-with_brought brought [] loads long = refl
length-with_brought brought (name ∷ names) [] long = absurd (omega (arith, long))
length-with_brought brought (name ∷ names) (l ∷ loads) long = ap suc (length-with_brought brought names loads (omega (arith, long)))

-- where nothing is brought, nothing changes
pub with_brought-nothing : (brought : List ℕ → List Share) (names : List (List ℕ)) (loads : List Loads) → length loads ≡ length names
    → ((name : List ℕ) → brought name ≡ []) → with_brought brought names loads ≡ loads
unfolding with_brought
with_brought-nothing brought [] [] long none = refl
with_brought-nothing brought [] (l ∷ loads) long none = absurd (omega (arith, long))
with_brought-nothing brought (name ∷ names) [] long none = absurd (omega (arith, long))
with_brought-nothing brought (name ∷ names) (l ∷ loads) long none =
    rw (none name) (ap (λ rest. l ∷ rest) (with_brought-nothing brought names loads (omega (arith, long)) none))

-- what is brought to no name of these does not matter
pub with_brought-apart : (to : List ℕ) (first later : List ℕ → List Share) (names : List (List ℕ)) (loads : List Loads)
    → AllByRecursion (λ name. bytes_eq to name ≡ false) names → ((name : List ℕ) → bytes_eq to name ≡ false → later name ≡ first name)
    → with_brought later names loads ≡ with_brought first names loads
unfolding with_brought
with_brought-apart to first later [] loads apart same = refl
with_brought-apart to first later (name ∷ names) [] apart same = refl
with_brought-apart to first later (name ∷ names) (l ∷ loads) apart same =
    rw (same name apart.0) (ap (λ rest. fold with_share l (first name) ∷ rest) (with_brought-apart to first later names loads apart.1 same))

pub apart_at : (name to : List ℕ) (names : List (List ℕ)) (i : ℕ) (d : List ℕ) → AllByRecursion (λ y. bytes_eq name y ≡ false) names → i < length names
    → get_or names i d ≡ to → bytes_eq to name ≡ false
apart_at name to [] i d apart inside is = absurd (omega (arith, inside))
apart_at name to (y ∷ names) zero d apart inside is = bytes_eq-flip to name ∙ ap (bytes_eq name) (sym is) ∙ apart.0
apart_at name to (y ∷ names) (suc i) d apart inside is = apart_at name to names i d apart.1 (omega (arith, inside)) is

-- a share at the place of a name
with_brought-at : (to : List ℕ) (share : Share) (first later : List ℕ → List Share) (names : List (List ℕ)) (loads : List Loads) (i : ℕ) (d : List ℕ) (l : Loads)
    → IsDistinct bytes_eq names → length loads ≡ length names → i < length names → get_or names i d ≡ to
    → ((name : List ℕ) → bytes_eq to name ≡ false → later name ≡ first name) → first to ≡ share ∷ [] → later to ≡ []
    → with_brought later names (set loads i (with_share (get_or loads i l) share)) ≡ with_brought first names loads
unfolding with_brought IsDistinct
with_brought-at to share first later [] loads i d l distinct long inside is same one none = absurd (omega (arith, inside))
with_brought-at to share first later (name ∷ names) [] i d l distinct long inside is same one none = absurd (omega (arith, long))
with_brought-at to share first later (name ∷ names) (own ∷ loads) zero d l distinct long inside is same one none =
    rw (is) (rw (one) (rw (none)
    (ap (λ rest. with_share own share ∷ rest) (with_brought-apart to first later names loads (subst (λ n. AllByRecursion (λ y. bytes_eq n y ≡ false) names) is distinct.0) same))))
with_brought-at to share first later (name ∷ names) (own ∷ loads) (suc i) d l distinct long inside is same one none =
    rw (same name (apart_at name to names i d distinct.0 (omega (arith, inside)) is))
    (ap (λ rest. fold with_share own (first name) ∷ rest)
    (with_brought-at to share first later names loads i d l distinct.1 (omega (arith, long)) (omega (arith, inside)) is same one none))

-- a path that does not lead to a name
pub bound_into-absent : (name : List ℕ) (path : List (List ℕ)) (bounds : List Bound) → list_any (bytes_eq name) path ≡ false → bound_into name path bounds ≡ None
unfolding bound_into
bound_into-absent name [] bounds absent = refl
bound_into-absent name (to ∷ path) [] absent = refl
bound_into-absent name (to ∷ path) (b ∷ bounds) absent =
    let parts = or_parts (bytes_eq name to) (list_any (bytes_eq name) path) absent in
    rw parts.0 (bound_into-absent name path bounds parts.1)

pub bound_into-ended : (name : List ℕ) (path : List (List ℕ)) (bounds : List Bound) → (path ≡ []) ⊎ (bounds ≡ []) → bound_into name path bounds ≡ None
unfolding bound_into
bound_into-ended name [] bounds ended = refl
bound_into-ended name (to ∷ path) [] ended = refl
bound_into-ended name (to ∷ path) (b ∷ bounds) ended = neither ended

pub bound_into-here : (to : List ℕ) (path : List (List ℕ)) (b : Bound) (bounds : List Bound) → bound_into to (to ∷ path) (b ∷ bounds) ≡ Some b
unfolding bound_into
bound_into-here to path b bounds = rw ((bytes_eq-Decides to to).1 refl) refl

pub bound_into-other : (name to : List ℕ) (path : List (List ℕ)) (b : Bound) (bounds : List Bound) → bytes_eq to name ≡ false
    → bound_into name path bounds ≡ bound_into name (to ∷ path) (b ∷ bounds)
unfolding bound_into
bound_into-other name to path b bounds other = rw (bytes_eq-flip name to ∙ other) refl

-- along a path
abbrev pub brought_along : Source → Bool → List (List ℕ) → List Bound → List ℕ → List Share
brought_along source has_peak path bounds name = share_by source has_peak (bound_into name path bounds)

-- with one hop more
pub with_brought-hop : (source : Source) (has_peak : Bool) (to : List ℕ) (path : List (List ℕ)) (b : Bound) (bounds : List Bound) (names : List (List ℕ))
    (loads : List Loads) (i : ℕ) (l : Loads)
    → IsDistinct bytes_eq names → length loads ≡ length names → position (bytes_eq to) names ≡ Some i → repeats (to ∷ path) ≡ false
    → with_brought (brought_along source has_peak path bounds) names (set loads i (with_share (get_or loads i l) (record { source = source; bound = b; has_peak = has_peak })))
    ≡ with_brought (brought_along source has_peak (to ∷ path) (b ∷ bounds)) names loads
unfolding repeats
with_brought-hop source has_peak to path b bounds names loads i l distinct long at once =
    let found = position-Some (bytes_eq to) names i to at in
    with_brought-at to (record { source = source; bound = b; has_peak = has_peak }) (brought_along source has_peak (to ∷ path) (b ∷ bounds))
    (brought_along source has_peak path bounds) names loads i to l distinct long found.0 (sym ((bytes_eq-Decides to (get_or names i to)).0 found.1))
    (λ name other. ap (share_by source has_peak) (bound_into-other name to path b bounds other))
    (ap (share_by source has_peak) (bound_into-here to path b bounds))
    (ap (share_by source has_peak) (bound_into-absent to path bounds (or_parts (list_any (bytes_eq to) path) (repeats path) once).0))

-- ---- no sum leaves its range
pub IsBelow-more : (most more : ℕ) (curve : Curve) → most ≤ more → IsBelow most curve → IsBelow more curve
IsBelow-more most more curve larger below = (omega (arith, larger, below.0), omega (arith, larger, below.1))

pub AreBelow-more : (most more : ℕ) (loads : List Loads) → most ≤ more → AllByRecursion (AreBelow most) loads → AllByRecursion (AreBelow more) loads
AreBelow-more most more [] larger below = tt
AreBelow-more most more (l ∷ loads) larger below = (
  (
    below.0.0,
    IsBelow-more most more l.green larger below.0.1,
    IsBelow-more most more l.all larger below.0.2,
    IsBelow-more most more l.peaked larger below.0.3,
    omega (arith, larger, below.0.4),
  ),
  AreBelow-more most more loads larger below.1,
)

pub plus-below : (most skew rate bound : ℕ) (curve : Curve) → IsBelow most curve → skew ≤ 10 ^ 10 → rate ≤ 2 * 10 ^ 13 → bound ≤ 10 ^ 15
    → IsBelow (most + 2 * 10 ^ 15) (plus curve (widened skew (record { rate = rate; burst = bound })))
plus-below most skew rate bound curve below short slow small =
    let widening = bytes_over_most rate skew slow short in
    (omega (arith, below.0, slow), omega (arith, below.1, small, widening))

peaked-below : (most : ℕ) (has_peak : Bool) (curve more : Curve) → IsBelow (most + 2 * 10 ^ 15) more → IsBelow (most + 2 * 10 ^ 15) curve
    → IsBelow (most + 2 * 10 ^ 15) (if has_peak then more else curve)
peaked-below most true curve more with without = with
peaked-below most false curve more with without = without

pub number-below : (most : ℕ) (has_peak : Bool) (number : ℕ) → number ≤ most → (if has_peak then number + 1 else number) ≤ most + 2 * 10 ^ 15
number-below most true number below = omega (arith, below)
number-below most false number below = omega (arith, below)

pub with_share-below : (most : ℕ) (l : Loads) (share : Share) → AreBelow most l → IsModerate share.source → IsInRange share.bound → AreBelow (most + 2 * 10 ^ 15) (with_share l share)
with_share-below most l share below moderate small = (
  below.0,
  plus-below most l.skew share.source.green.rate share.bound.green l.green below.1 below.0 moderate.0.0 small.0,
  plus-below most l.skew share.source.all.rate share.bound.all l.all below.2 below.0 moderate.1.0.0 small.1.0,
  peaked-below most share.has_peak l.peaked (plus l.peaked (widened l.skew (kept Excess share)))
      (plus-below most l.skew share.source.excess.rate share.bound.excess l.peaked below.3 below.0 moderate.1.1.0.0 small.1.1.0)
      (IsBelow-more most (most + 2 * 10 ^ 15) l.peaked (omega arith) below.3),
  number-below most share.has_peak l.peaked_number below.4,
)

pub set-below : (most : ℕ) (loads : List Loads) (i : ℕ) (new : Loads) → i < length loads → AllByRecursion (AreBelow most) loads → AreBelow (most + 2 * 10 ^ 15) new
    → AllByRecursion (AreBelow (most + 2 * 10 ^ 15)) (set loads i new)
set-below most [] i new inside below is_below = absurd (omega (arith, inside))
set-below most (l ∷ loads) zero new inside below is_below = (is_below, AreBelow-more most (most + 2 * 10 ^ 15) loads (omega arith) below.1)
set-below most (l ∷ loads) (suc i) new inside below is_below =
    ((AreBelow-more most (most + 2 * 10 ^ 15) (l ∷ []) (omega arith) (below.0, tt)).0, set-below most loads i new (omega (arith, inside)) below.1 is_below)

pub AreBelow-at : (most : ℕ) (loads : List Loads) (i : ℕ) (d : Loads) → i < length loads → AllByRecursion (AreBelow most) loads → AreBelow most (get_or loads i d)
AreBelow-at most [] i d inside below = absurd (omega (arith, inside))
AreBelow-at most (l ∷ loads) zero d inside below = below.0
AreBelow-at most (l ∷ loads) (suc i) d inside below = AreBelow-at most loads i d (omega (arith, inside)) below.1

-- ---- what is added is small
small_by : (x : Bool) (source : Source) (has_peak : Bool) (b : Bound) (rest : Option Bound) → IsModerate source → IsInRange b
    → AllByRecursion IsSmall (share_by source has_peak rest) → AllByRecursion IsSmall (share_by source has_peak (if x then Some b else rest))
small_by true source has_peak b rest moderate small behind = ((moderate, small), tt)
small_by false source has_peak b rest moderate small behind = behind

small-next : (source : Source) (has_peak : Bool) (to : List ℕ) (path : List (List ℕ)) (b : Bound) (bounds : List Bound) (meters : List (List ℕ × Meter)) → IsModerate source → IsInRange b
    → AreSmall (brought_along source has_peak path bounds) meters → AreSmall (brought_along source has_peak (to ∷ path) (b ∷ bounds)) meters
unfolding bound_into
small-next source has_peak to path b bounds [] moderate small behind = tt
small-next source has_peak to path b bounds (entry ∷ meters) moderate small behind = (
  small_by (bytes_eq entry.0 to) source has_peak b (bound_into entry.0 path bounds) moderate small behind.0,
  small-next source has_peak to path b bounds meters moderate small behind.1,
)

pub small-hop : (source : Source) (has_peak : Bool) (xs path : List (List ℕ)) (to : List ℕ) (ys bounds : List Bound) (b : Bound) (meters : List (List ℕ × Meter))
    → xs ≡ to ∷ path → ys ≡ b ∷ bounds → IsModerate source → IsInRange b
    → AreSmall (brought_along source has_peak path bounds) meters → AreSmall (brought_along source has_peak xs ys) meters
small-hop source has_peak xs path to ys bounds b meters is_path is_bounds moderate small behind =
    subst (λ p. AreSmall (brought_along source has_peak p ys) meters) (sym is_path)
    (subst (λ p. AreSmall (brought_along source has_peak (to ∷ path) p) meters) (sym is_bounds) (small-next source has_peak to path b bounds meters moderate small behind))

pub small-ended : (source : Source) (has_peak : Bool) (xs : List (List ℕ)) (ys : List Bound) (meters : List (List ℕ × Meter)) → (xs ≡ []) ⊎ (ys ≡ [])
    → AreSmall (brought_along source has_peak xs ys) meters
small-ended source has_peak xs ys [] ended = tt
small-ended source has_peak xs ys (entry ∷ meters) ended =
    (subst (λ f. AllByRecursion IsSmall (share_by source has_peak f)) (sym (bound_into-ended entry.0 xs ys ended)) tt, small-ended source has_peak xs ys meters ended)

-- ---- a loop over contracts
by_test : (test : Bool) (number : ℕ) (rest : Option ℕ) → (if test then rest else Some number) ≡ None → (test ≡ true) × (rest ≡ None)
by_test true number rest whole = (refl, whole)
by_test false number rest whole = absurd cc

-- where none is amiss, each contract and its bounds have the shape
pub shaped : (number : ℕ) (d : Domain) (contracts : List Contract) (rows : List (List Bound)) → misfit number d contracts rows ≡ None → AllZip (HasShape d) contracts rows
unfolding misfit
shaped number d [] [] whole = tt
shaped number d [] (bounds ∷ rows) whole = absurd cc
shaped number d (c ∷ contracts) [] whole = absurd cc
shaped number d (c ∷ contracts) (bounds ∷ rows) whole =
    let tested = by_test (fits d c && nat_eq (length bounds) (suc (length c.path))) number (misfit (suc number) d contracts rows) whole in
    let parts = and_parts (fits d c) (nat_eq (length bounds) (suc (length c.path))) tested.0 in
    ((parts.0, eqb-true (length bounds) (suc (length c.path)) parts.1), shaped (suc number) d contracts rows tested.1)

pub shaped_behind : (d : Domain) (xs contracts : List Contract) (c : Contract) (ys rows : List (List Bound)) (bounds : List Bound) → xs ≡ c ∷ contracts → ys ≡ bounds ∷ rows
    → AllZip (HasShape d) xs ys → HasShape d c bounds × AllZip (HasShape d) contracts rows
shaped_behind d xs contracts c ys rows bounds is_contracts is_rows all =
    subst (λ list. AllZip (HasShape d) (c ∷ contracts) list) is_rows (subst (λ list. AllZip (HasShape d) list ys) is_contracts all)

-- where what holds of each pair is left, both lists go on
pub zip_inside : {X Y : Type 0} (P : X → Y → Type 0) (xs : List X) (ys : List Y) (i : ℕ) → AllZip P (drop i xs) (drop i ys) → i < length xs → i < length ys
zip_inside P xs ys i all inside = omega (arith, inside, AllZip-long P (drop i xs) (drop i ys) all, length-drop i xs, length-drop i ys)

pub places_kept : (brought : List ℕ → List Share) (meters : List (List ℕ × Meter)) (loads new : List Loads) → new ≡ with_brought brought (keys_of meters) loads
    → length loads ≡ length meters → length new ≡ length meters
places_kept brought meters loads new is_new long =
    ap length is_new ∙ length-with_brought brought (keys_of meters) loads (long ∙ sym (length-keys_of meters)) ∙ length-keys_of meters

pub shaped_all : (d : Domain) (xs contracts : List Contract) (ys rows : List (List Bound)) → xs ≡ contracts → ys ≡ rows → misfit 0 d contracts rows ≡ None → AllZip (HasShape d) xs ys
shaped_all d xs contracts ys rows is_contracts is_rows whole = shaped 0 d xs ys (ap (λ list. misfit 0 d list ys) is_contracts ∙ ap (misfit 0 d contracts) is_rows ∙ whole)

-- a list that is written over another of the same length
pub written : (len : ℕ) (new old given : List Loads) → given ≡ old → length given ≡ len → length new ≡ length given → take len (new ++ drop (length new) old) ≡ new
written len new old given same is_len long =
    let as_long : length new ≡ length old = long ∙ ap length same in
    ap (λ rest. take len (new ++ rest)) (drop_all (length new) old (omega (arith, as_long))) ∙ ap (take len) (append-nil new) ∙ take_all len new (omega (arith, long, is_len))

-- ---- the sums are those of all shares
abbrev curve : ℕ → ℕ → Curve
curve rate burst = record { rate = rate; burst = burst }

pub same_curve : (rate other burst more : ℕ) → rate ≡ other → burst ≡ more → curve rate burst ≡ curve other more
same_curve rate other burst more rates bursts = ap (λ r. curve r burst) rates ∙ ap (curve other) bursts

plus-nothing : (c : Curve) → plus nothing c ≡ c
plus-nothing c = same_curve (0 + c.rate) c.rate (0 + c.burst) c.burst (omega arith) (omega arith)

nothing-plus : (c : Curve) → plus c nothing ≡ c
nothing-plus c = same_curve (c.rate + 0) c.rate (c.burst + 0) c.burst (omega arith) (omega arith)

plus-assoc : (a b c : Curve) → plus (plus a b) c ≡ plus a (plus b c)
plus-assoc a b c = same_curve (a.rate + b.rate + c.rate) (a.rate + (b.rate + c.rate)) (a.burst + b.burst + c.burst) (a.burst + (b.burst + c.burst)) (omega arith) (omega arith)

total-cons : (c : Curve) (curves : List Curve) → total (c ∷ curves) ≡ plus c (total curves)
total-cons c curves = same_curve _ _ _ _ (sum_by-cons (λ (x : Curve). x.rate) c curves) (sum_by-cons (λ (x : Curve). x.burst) c curves)

-- a part of the sums that each share adds to
part_is : (part : Loads → Curve) (column : Column) → ((l : Loads) (share : Share) → part (with_share l share) ≡ plus (part l) (widened l.skew (kept column share)))
    → (l : Loads) (shares : List Share) → part (fold with_share l shares) ≡ plus (part l) (load column l.skew shares)
part_is part column adds l [] = sym (nothing-plus (part l))
part_is part column adds l (share ∷ shares) =
    part_is part column adds (with_share l share) shares
    ∙ ap (λ c. plus c (load column l.skew shares)) (adds l share)
    ∙ plus-assoc (part l) (widened l.skew (kept column share)) (load column l.skew shares)
    ∙ ap (plus (part l)) (sym (total-cons (widened l.skew (kept column share)) (map (λ other. widened l.skew (kept column other)) shares)))

peaked_by : (b : Bool) (l : Loads) (share : Share) (shares : List Share) → share.has_peak ≡ b
    → plus (with_share l share).peaked (load Excess l.skew (filter (λ other. other.has_peak) shares))
    ≡ plus l.peaked (load Excess l.skew (filter (λ other. other.has_peak) (share ∷ shares)))
peaked_by true l share shares is =
    rw is (plus-assoc l.peaked (widened l.skew (kept Excess share)) (load Excess l.skew (filter (λ other. other.has_peak) shares))
    ∙ ap (plus l.peaked) (sym (total-cons (widened l.skew (kept Excess share)) (map (λ other. widened l.skew (kept Excess other)) (filter (λ other. other.has_peak) shares)))))
peaked_by false l share shares is = rw is refl

peaked_is : (l : Loads) (shares : List Share) → (fold with_share l shares).peaked ≡ plus l.peaked (load Excess l.skew (filter (λ share. share.has_peak) shares))
peaked_is l [] = sym (nothing-plus l.peaked)
peaked_is l (share ∷ shares) = peaked_is (with_share l share) shares ∙ peaked_by share.has_peak l share shares refl

one_more : (n : ℕ) → nat_eq (n + 1) 0 ≡ false
one_more n = grind (arith, nat_tests)

none_by : (b : Bool) (l : Loads) (share : Share) (any : Bool) → share.has_peak ≡ b
    → (nat_eq (with_share l share).peaked_number 0 && not any) ≡ (nat_eq l.peaked_number 0 && not (share.has_peak || any))
none_by true l share any is = rw is (ap (λ b. b && not any) (one_more l.peaked_number) ∙ sym (and-false (nat_eq l.peaked_number 0)))
none_by false l share any is = rw is refl

-- none of the shares has a peak where the number of those that do is 0
none_is : (l : Loads) (shares : List Share)
    → nat_eq (fold with_share l shares).peaked_number 0 ≡ (nat_eq l.peaked_number 0 && not (list_any (λ share. share.has_peak) shares))
none_is l [] = sym (and-true (nat_eq l.peaked_number 0))
none_is l (share ∷ shares) =
    none_is (with_share l share) shares ∙ none_by share.has_peak l share (list_any (λ other. other.has_peak) shares) refl

pub green_is : (skew : ℕ) (shares : List Share) → (sums_of skew shares).green ≡ load Green skew shares
green_is skew shares = part_is (λ l. l.green) Green (λ l share. refl) (no_loads skew) shares ∙ plus-nothing (load Green skew shares)

all_is : (skew : ℕ) (shares : List Share) → (sums_of skew shares).all ≡ load All skew shares
all_is skew shares = part_is (λ l. l.all) All (λ l share. refl) (no_loads skew) shares ∙ plus-nothing (load All skew shares)

single_by : (b : Bool) (skew : ℕ) (shares : List Share) → (if not b then nothing else load All skew shares) ≡ load All skew (if b then shares else [])
single_by true skew shares = refl
single_by false skew shares = refl

pub counted_is : (p : Parameters) (skew : ℕ) (shares : List Share) → counted_load p (sums_of skew shares) ≡ load (held_column p) skew (counted p shares)
counted_is (SrTcm p) skew shares =
    ap (λ b. if b then nothing else (sums_of skew shares).all) (none_is (no_loads skew) shares)
    ∙ ap (λ c. if not (list_any (λ share. share.has_peak) shares) then nothing else c) (all_is skew shares)
    ∙ single_by (list_any (λ share. share.has_peak) shares) skew shares
counted_is (TrTcm p) skew shares = all_is skew shares
counted_is (Rfc4115 p) skew shares =
    peaked_is (no_loads skew) shares ∙ plus-nothing (load Excess skew (filter (λ share. share.has_peak) shares))

pub tests_are : (name : List ℕ) (m : Meter) (shares : List Share) (l : Loads) → l ≡ sums_of m.skew shares
    → load_tests name m l.green (counted_load m.parameters l) ≡ meter_tests name m shares
tests_are name m shares l is =
    ap (λ own. load_tests name m own.green (counted_load m.parameters own)) is
    ∙ ap (λ green. load_tests name m green (counted_load m.parameters (sums_of m.skew shares))) (green_is m.skew shares)
    ∙ ap (load_tests name m (load Green m.skew shares)) (counted_is m.parameters m.skew shares)

-- their tests are those of the table
pub sums_tests-are : (d : Domain) (contracts : List Contract) (rows : List (List Bound)) (meters : List (List ℕ × Meter))
    → sums_tests meters (map (λ entry. sums_of entry.1.skew (shares_at d entry.0 contracts rows)) meters) ≡ table_tests d contracts rows meters
unfolding sums_tests table_tests
sums_tests-are d contracts rows [] = refl
sums_tests-are d contracts rows (entry ∷ meters) =
    let shares = shares_at d entry.0 contracts rows in
    ap (λ tests. tests ++ sums_tests meters (map (λ other. sums_of other.1.skew (shares_at d other.0 contracts rows)) meters))
    (tests_are entry.0 entry.1 shares (sums_of entry.1.skew shares) refl)
    ∙ ap (λ tests. meter_tests entry.0 entry.1 shares ++ tests) (sums_tests-are d contracts rows meters)

-- ---- a loop over meters and sums
pub tests_next : (xs meters : List (List ℕ × Meter)) (name : List ℕ) (m : Meter) (ys sums : List Loads) (l : Loads) (refusal : Option Refusal)
    → xs ≡ (name, m) ∷ meters → ys ≡ l ∷ sums → refusal ≡ first_failed (load_tests name m l.green (counted_load m.parameters l))
    → first_failed (sums_tests xs ys) ≡ option_or refusal (first_failed (sums_tests meters sums))
unfolding sums_tests
tests_next xs meters name m ys sums l refusal is_meters is_sums is_refusal =
    rw is_meters (rw is_sums (rw is_refusal (first_failed-append (sum_tests (name, m) l) (sums_tests meters sums))))

pub tests_ended : (xs : List (List ℕ × Meter)) (ys : List Loads) → (xs ≡ []) ⊎ (ys ≡ []) → first_failed (sums_tests xs ys) ≡ None
unfolding sums_tests first_failed
tests_ended [] ys ended = refl
tests_ended (entry ∷ meters) [] ended = refl
tests_ended (entry ∷ meters) (l ∷ sums) ended = neither ended
