-- A table with one contract more, and one with one fewer.
use Rattle.std.proofs.Common.{arith, ◌≡◌, ℕ, zero, suc, ◌+◌, ◌*◌, ◌^◌, ◌≤◌, ◌<◌, Bool, true, false, nat_eq, ◌&&◌, List, [], ◌∷◌, ◌++◌, length, map, append-nil, drop, filter, take, is_some, option_to_list, get_or, if◌then◌else◌, Option, None, Some, option_map, refl, sym, ap, subst, ◌∙◌, All, IsTrue, bytes_eq}
use Rattle.std.specs.List.{AllByRecursion, fold, list_any, remove}
use Rattle.std.specs.Map.{keys_of}
use Rattle.std.specs.Option.{option_or}
use Rattle.std.proofs.lemmas.Bool.Decides.{nat_tests}
use Rattle.std.proofs.lemmas.List.Elements.{All-head, All-tail, All-weaker}
use Rattle.std.proofs.lemmas.List.{append_assoc, get_or_push, length-append, length-map, length-take-le, take_all, take_more}
use Rattle.std.proofs.lemmas.List.Sums.{fold-append}
use Rattle.envelope_core.specs.Curve.{Curve, widened}
use Rattle.ds_domain_base.specs.Limits.{all_limit, green_limit}
use Rattle.ds_domain_base.specs.Parameters.{Parameters}
use Rattle.ds_domain_base.specs.Parameters.TheVariants.{SrTcm, TrTcm, Rfc4115}
use Rattle.moment_core.specs.declared.column.Column.TheVariants.{Green, Excess}
use Rattle.moment_core.specs.declared.column.Column.TheVariants as columns
use Rattle.ds_domain_base.specs.Domains.{Domain}
use Rattle.ds_domain_base.specs.Lifetimes.{Span}
use Rattle.ds_domain_base.specs.declared.contract.Contract.{Contract}
use Rattle.ds_domain_base.specs.declared.parts.Meter.{Meter}
use Rattle.ds_certificate.specs.Bounds.{HasShape, IsCertificate, Meets, MeetsIn, fits, least_of}
use Rattle.ds_certificate.proofs.ColumnLaws.{in_column}
use Rattle.ds_certificate.proofs.LeastLaws.{HasShape-least, Meets-least}
use Rattle.ds_certificate.specs.Columns.{Bound}
use Rattle.ds_certificate.specs.Sources.{jitters_of, source_of}
use Rattle.ds_checker.specs.Acceptance.{Carries, IsAcceptable, IsWithin, Table, refusal_behind, refusal_of}
use Rattle.ds_checker.specs.BoundTests.{bound_tests, misfit, tests_along}
use Rattle.ds_checker.specs.Changes.{is_on, lasting, own_refusal, with_contract, without_contract}
use Rattle.ds_domain_base.specs.Sent.{has_peak}
use Rattle.ds_checker.specs.Loads.{Share, bound_into, kept, share_of, shares_at}
use Rattle.ds_checker.specs.Sums.{AreBelow, AreSmall, IsBefore, IsKept, IsPart, IsSmall, IsSound, counted_load, loads_of, no_loads, nothing, plus, sums_of, sums_tests, with_brought, with_share}
use Rattle.ds_checker.specs.TableTests.{meter_tests, table_tests}
use Rattle.ds_checker.specs.Tests.{first_failed}
use Rattle.ds_checker.specs.declared.load.Loads.{Loads}
use Rattle.ds_checker.specs.declared.refusal.Refusal.{Refusal}
use Rattle.ds_checker.specs.declared.refusal.Refusal.TheVariants.{Shape}
use Rattle.ds_checker.proofs.AcceptanceLaws.{acceptable, all_carried, bounded, carried, has_shape, is_shaped, met_by, misfit-shaped, misfit-unshaped, CarriesAt}
use Rattle.ds_checker.proofs.BoundLaws.{first_failed-append, found}
use Rattle.ds_checker.proofs.PlaceLaws.{same_loads}
use Rattle.ds_checker.proofs.LoadLaws.{AreBelow-more, bound_into-absent, counted_is, green_is, places_kept, same_curve, sums_tests-are, with_share-below, written}
use Rattle.std.proofs.lemmas.Slice.Zip.{AllZip-long}

-- ---- one contract more
last_shares : (d : Domain) (name : List ℕ) (c : Contract) (bounds : List Bound) → shares_at d name (c ∷ []) (bounds ∷ []) ≡ share_of d name c bounds
unfolding shares_at
last_shares d name c bounds = append-nil (share_of d name c bounds)

pub shares_at-append : (d : Domain) (name : List ℕ) (contracts : List Contract) (rows : List (List Bound)) (c : Contract) (bounds : List Bound) → length rows ≡ length contracts
    → shares_at d name (contracts ++ c ∷ []) (rows ++ bounds ∷ []) ≡ shares_at d name contracts rows ++ share_of d name c bounds
unfolding shares_at
shares_at-append d name [] [] c bounds long = last_shares d name c bounds
shares_at-append d name [] (row ∷ rows) c bounds long = absurd (omega (arith, long))
shares_at-append d name (own ∷ contracts) [] c bounds long = absurd (omega (arith, long))
shares_at-append d name (own ∷ contracts) (row ∷ rows) c bounds long =
    ap (λ rest. share_of d name own row ++ rest) (shares_at-append d name contracts rows c bounds (omega (arith, long)))
    ∙ sym (append_assoc (share_of d name own row) (shares_at d name contracts rows) (share_of d name c bounds))

pub sums-grown : (d : Domain) (contracts : List Contract) (rows : List (List Bound)) (c : Contract) (bounds : List Bound) (meters : List (List ℕ × Meter)) → length rows ≡ length contracts
    → with_brought (λ name. share_of d name c bounds) (keys_of meters) (map (λ entry. sums_of entry.1.skew (shares_at d entry.0 contracts rows)) meters)
    ≡ map (λ entry. sums_of entry.1.skew (shares_at d entry.0 (contracts ++ c ∷ []) (rows ++ bounds ∷ []))) meters
unfolding with_brought
sums-grown d contracts rows c bounds [] long = refl
sums-grown d contracts rows c bounds (entry ∷ meters) long =
    let own = sym (fold-append with_share (no_loads entry.1.skew) (shares_at d entry.0 contracts rows) (share_of d entry.0 c bounds))
    ∙ ap (sums_of entry.1.skew) (sym (shares_at-append d entry.0 contracts rows c bounds long)) in
    ap (λ l. l ∷ with_brought (λ name. share_of d name c bounds) (keys_of meters) (map (λ other. sums_of other.1.skew (shares_at d other.0 contracts rows)) meters)) own
    ∙ ap (λ rest. sums_of entry.1.skew (shares_at d entry.0 (contracts ++ c ∷ []) (rows ++ bounds ∷ [])) ∷ rest) (sums-grown d contracts rows c bounds meters long)

-- what holds of the items of two lists
pub all_together : {X : Type 0} (P : X → Type 0) (xs ys : List X) → AllByRecursion P xs → AllByRecursion P ys → AllByRecursion P (xs ++ ys)
all_together P [] ys left right = right
all_together P (x ∷ xs) ys left right = (left.0, all_together P xs ys left.1 right)

all_parts : {X : Type 0} (P : X → Type 0) (xs ys : List X) → AllByRecursion P (xs ++ ys) → AllByRecursion P xs × AllByRecursion P ys
all_parts P [] ys all = (tt, all)
all_parts P (x ∷ xs) ys all = let behind = all_parts P xs ys all.1 in ((all.0, behind.0), behind.1)

pub small-grown : (d : Domain) (contracts : List Contract) (rows : List (List Bound)) (c : Contract) (bounds : List Bound) (meters : List (List ℕ × Meter)) → length rows ≡ length contracts
    → AreSmall (λ name. shares_at d name contracts rows) meters → AreSmall (λ name. share_of d name c bounds) meters
    → AreSmall (λ name. shares_at d name (contracts ++ c ∷ []) (rows ++ bounds ∷ [])) meters
small-grown d contracts rows c bounds [] long before own = tt
small-grown d contracts rows c bounds (entry ∷ meters) long before own = (
  subst (AllByRecursion IsSmall) (sym (shares_at-append d entry.0 contracts rows c bounds long))
      (all_together IsSmall (shares_at d entry.0 contracts rows) (share_of d entry.0 c bounds) before.0 own.0),
  small-grown d contracts rows c bounds meters long before.1 own.1,
)

pub kept-grown : (t : Table) (c : Contract) (bounds : List Bound) (sums new : List Loads) → length t.certificate ≡ length t.contracts → IsKept t sums
    → new ≡ with_brought (λ name. share_of t.domain name c bounds) (keys_of t.domain.meters) sums → AreSmall (λ name. share_of t.domain name c bounds) t.domain.meters
    → IsKept (with_contract t c bounds) new
kept-grown t c bounds sums new long kept is_new small = record {
  sums = is_new ∙ ap (with_brought (λ name. share_of t.domain name c bounds) (keys_of t.domain.meters)) kept.sums
      ∙ sums-grown t.domain t.contracts t.certificate c bounds t.domain.meters long;
  small = small-grown t.domain t.contracts t.certificate c bounds t.domain.meters long kept.small small;
  short = kept.short;
}

-- ---- what stands against it
misfit-append : (number next : ℕ) (d : Domain) (contracts : List Contract) (rows : List (List Bound)) (c : Contract) (bounds : List Bound) → IsCertificate d contracts rows
    → next ≡ number + length contracts → misfit number d (contracts ++ c ∷ []) (rows ++ bounds ∷ []) ≡ misfit next d (c ∷ []) (bounds ∷ [])
misfit-append number next d [] [] c bounds met is_next = ap (λ n. misfit n d (c ∷ []) (bounds ∷ [])) (omega (arith, is_next))
misfit-append number next d [] (row ∷ rows) c bounds met is_next = absurd met
misfit-append number next d (own ∷ contracts) [] c bounds met is_next = absurd met
misfit-append number next d (own ∷ contracts) (row ∷ rows) c bounds met is_next =
    misfit-shaped number d own (contracts ++ c ∷ []) row (rows ++ bounds ∷ []) (has_shape d own row met.0.0)
    ∙ misfit-append (suc number) next d contracts rows c bounds met.1 (omega (arith, is_next))

bound_tests-append : (number next : ℕ) (d : Domain) (contracts : List Contract) (rows : List (List Bound)) (c : Contract) (bounds : List Bound) → length rows ≡ length contracts
    → next ≡ number + length contracts
    → bound_tests number d (contracts ++ c ∷ []) (rows ++ bounds ∷ []) ≡ bound_tests number d contracts rows ++ tests_along next (source_of d c) (jitters_of d c) bounds
unfolding bound_tests
bound_tests-append number next d [] [] c bounds long is_next =
    append-nil (tests_along number (source_of d c) (jitters_of d c) bounds) ∙ ap (λ n. tests_along n (source_of d c) (jitters_of d c) bounds) (omega (arith, is_next))
bound_tests-append number next d [] (row ∷ rows) c bounds long is_next = absurd (omega (arith, long))
bound_tests-append number next d (own ∷ contracts) [] c bounds long is_next = absurd (omega (arith, long))
bound_tests-append number next d (own ∷ contracts) (row ∷ rows) c bounds long is_next =
    ap (λ rest. tests_along number (source_of d own) (jitters_of d own) row ++ rest)
    (bound_tests-append (suc number) next d contracts rows c bounds (omega (arith, long)) (omega (arith, is_next)))
    ∙ sym (append_assoc (tests_along number (source_of d own) (jitters_of d own) row) (bound_tests (suc number) d contracts rows)
    (tests_along next (source_of d c) (jitters_of d c) bounds))

pub rows_long : (d : Domain) (contracts : List Contract) (rows : List (List Bound)) → IsCertificate d contracts rows → length rows ≡ length contracts
rows_long d contracts rows met = AllZip-long (λ c bounds. HasShape d c bounds × Meets d c bounds) contracts rows met

-- the sums of an acceptable table pass
pub sums_pass : (t : Table) (sums : List Loads) → IsAcceptable t → sums ≡ loads_of t → first_failed (sums_tests t.domain.meters sums) ≡ None
sums_pass t sums met is =
    ap (λ own. first_failed (sums_tests t.domain.meters own)) is
    ∙ ap first_failed (sums_tests-are t.domain t.contracts t.certificate t.domain.meters)
    ∙ all_carried t.domain t.contracts t.certificate t.domain.meters met.1

misfit-none : (number : ℕ) (d : Domain) → misfit (suc number) d [] [] ≡ None
unfolding misfit
misfit-none number d = refl

-- a contract more that has not its shape
pub refused-shape : (t : Table) (c : Contract) (bounds : List Bound) (number : ℕ) → IsAcceptable t → number ≡ length t.contracts → is_shaped t.domain c bounds ≡ false
    → refusal_of (with_contract t c bounds) ≡ Some (Shape number)
refused-shape t c bounds number met is_number fails =
    ap (refusal_behind (with_contract t c bounds))
    (misfit-append 0 number t.domain t.contracts t.certificate c bounds met.0 (omega (arith, is_number)) ∙ misfit-unshaped number t.domain c [] bounds [] fails)

-- and one that has: the first of its own bounds that is too low, or else the first meter that has too little
pub refused-behind : (t : Table) (c : Contract) (bounds : List Bound) (sums : List Loads) (number : ℕ) → IsAcceptable t → sums ≡ loads_of t → number ≡ length t.contracts
    → is_shaped t.domain c bounds ≡ true
    → refusal_of (with_contract t c bounds)
    ≡ option_or (first_failed (tests_along number (source_of t.domain c) (jitters_of t.domain c) bounds))
    (first_failed (sums_tests t.domain.meters (with_brought (λ name. share_of t.domain name c bounds) (keys_of t.domain.meters) sums)))
refused-behind t c bounds sums number met is is_number holds =
    let d = t.domain in
    let contracts = t.contracts ++ c ∷ [] in
    let rows = t.certificate ++ bounds ∷ [] in
    let long = rows_long d t.contracts t.certificate met.0 in
    let own = first_failed (tests_along number (source_of d c) (jitters_of d c) bounds) in
    let table = first_failed (table_tests d contracts rows d.meters) in
    ap (refusal_behind (with_contract t c bounds))
    (misfit-append 0 number d t.contracts t.certificate c bounds met.0 (omega (arith, is_number)) ∙ misfit-shaped number d c [] bounds [] holds ∙ misfit-none number d)
    ∙ first_failed-append (bound_tests 0 d contracts rows) (table_tests d contracts rows d.meters)
    ∙ ap (λ f. option_or f table)
    (ap first_failed (bound_tests-append 0 number d t.contracts t.certificate c bounds long (omega (arith, is_number)))
    ∙ first_failed-append (bound_tests 0 d t.contracts t.certificate) (tests_along number (source_of d c) (jitters_of d c) bounds)
    ∙ ap (λ f. option_or f own) (bounded 0 d t.contracts t.certificate met.0))
    ∙ ap (λ tests. option_or own (first_failed tests))
    (sym (sums_tests-are d contracts rows d.meters)
    ∙ ap (sums_tests d.meters)
    (sym (ap (with_brought (λ name. share_of d name c bounds) (keys_of d.meters)) is ∙ sums-grown d t.contracts t.certificate c bounds d.meters long)))

-- ---- no sum of a table leaves its range
fold-below : (most : ℕ) (l : Loads) (shares : List Share) → AreBelow most l → AllByRecursion IsSmall shares → AreBelow (most + 2 * 10 ^ 15 * length shares) (fold with_share l shares)
fold-below most l [] below small = (AreBelow-more most (most + 2 * 10 ^ 15 * 0) (l ∷ []) (omega arith) (below, tt)).0
fold-below most l (share ∷ shares) below small =
    (AreBelow-more (most + 2 * 10 ^ 15 + 2 * 10 ^ 15 * length shares) (most + 2 * 10 ^ 15 * suc (length shares)) (fold with_share (with_share l share) shares ∷ []) (omega arith)
    (fold-below (most + 2 * 10 ^ 15) (with_share l share) shares (with_share-below most l share below small.0.0 small.0.1) small.1, tt)).0

one_share : {X : Type 0} (xs : List X) (f : Option Bound) (share : Bound → X) → xs ≡ option_to_list (option_map share f) → length xs ≤ 1
one_share xs None share is = omega (arith, ap length is)
one_share xs (Some b) share is = omega (arith, ap length is)

few_shares : (d : Domain) (name : List ℕ) (contracts : List Contract) (rows : List (List Bound)) → length (shares_at d name contracts rows) ≤ length contracts
unfolding shares_at
few_shares d name [] rows = omega arith
few_shares d name (c ∷ contracts) [] = omega arith
few_shares d name (c ∷ contracts) (row ∷ rows) =
    let own = one_share (share_of d name c row) (bound_into name c.path (drop 1 row)) (λ bound. record { source = source_of d c; bound = bound; has_peak = has_peak c.terms }) refl in
    omega (arith, own, few_shares d name contracts rows, length-append (share_of d name c row) (shares_at d name contracts rows))

sums-below : (d : Domain) (contracts : List Contract) (rows : List (List Bound)) (meters : List (List ℕ × Meter)) → length contracts < 2 ^ 64
    → AreSmall (λ name. shares_at d name contracts rows) meters → AllByRecursion (λ entry. entry.1.skew ≤ 10 ^ 10) meters
    → AllByRecursion (AreBelow (2 ^ 120)) (map (λ entry. sums_of entry.1.skew (shares_at d entry.0 contracts rows)) meters)
sums-below d contracts rows [] few small short = tt
sums-below d contracts rows (entry ∷ meters) few small short =
    let shares = shares_at d entry.0 contracts rows in
    let nothing_yet : AreBelow 0 (no_loads entry.1.skew) = (short.0, (omega arith, omega arith), (omega arith, omega arith), (omega arith, omega arith), omega arith) in (
      (AreBelow-more (0 + 2 * 10 ^ 15 * length shares) (2 ^ 120) (sums_of entry.1.skew shares ∷ []) (omega (arith, few, few_shares d entry.0 contracts rows))
          (fold-below 0 (no_loads entry.1.skew) shares nothing_yet small.0, tt)).0,
      sums-below d contracts rows meters few small.1 short.1,
    )

pub kept-below : (t : Table) (sums : List Loads) → length t.contracts < 2 ^ 64 → IsKept t sums → AllByRecursion (AreBelow (2 ^ 120)) sums
kept-below t sums few kept =
    subst (AllByRecursion (AreBelow (2 ^ 120))) (sym kept.sums) (sums-below t.domain t.contracts t.certificate t.domain.meters few kept.small kept.short)

pub kept-long : (t : Table) (sums : List Loads) → IsKept t sums → length sums ≡ length t.domain.meters
kept-long t sums kept = ap length kept.sums ∙ length-map t.domain.meters (λ entry. sums_of entry.1.skew (shares_at t.domain entry.0 t.contracts t.certificate))

-- ---- one contract fewer
plus-swap : (c a b : Curve) → plus (plus c a) b ≡ plus (plus c b) a
plus-swap c a b = same_curve (c.rate + a.rate + b.rate) (c.rate + b.rate + a.rate) (c.burst + a.burst + b.burst) (c.burst + b.burst + a.burst) (omega arith) (omega arith)

peaked-swap : (p q : Bool) (c a b : Curve) → (if q then plus (if p then plus c a else c) b else (if p then plus c a else c)) ≡ (if p then plus (if q then plus c b else c) a else (if q then plus c b else c))
peaked-swap true true c a b = plus-swap c a b
peaked-swap true false c a b = refl
peaked-swap false true c a b = refl
peaked-swap false false c a b = refl

number-swap : (p q : Bool) (n : ℕ) → (if q then (if p then n + 1 else n) + 1 else (if p then n + 1 else n)) ≡ (if p then (if q then n + 1 else n) + 1 else (if q then n + 1 else n))
number-swap true true n = refl
number-swap true false n = refl
number-swap false true n = refl
number-swap false false n = refl

-- shares add in any order
share-swap : (l : Loads) (a b : Share) → with_share (with_share l a) b ≡ with_share (with_share l b) a
share-swap l a b = same_loads l.skew _ _ _ _ _ _ _ _
    (plus-swap l.green (widened l.skew (kept Green a)) (widened l.skew (kept Green b)))
    (plus-swap l.all (widened l.skew (kept columns.All a)) (widened l.skew (kept columns.All b)))
    (peaked-swap a.has_peak b.has_peak l.peaked (widened l.skew (kept Excess a)) (widened l.skew (kept Excess b)))
    (number-swap a.has_peak b.has_peak l.peaked_number)

one_by : (l : Loads) (a : Share) (shares : List Share) → fold with_share (with_share l a) shares ≡ with_share (fold with_share l shares) a
one_by l a [] = refl
one_by l a (share ∷ shares) = ap (λ m. fold with_share m shares) (share-swap l a share) ∙ one_by (with_share l share) a shares

fold-swap : (l : Loads) (own shares : List Share) → fold with_share (fold with_share l own) shares ≡ fold with_share (fold with_share l shares) own
fold-swap l [] shares = refl
fold-swap l (a ∷ own) shares = fold-swap (with_share l a) own shares ∙ ap (λ m. fold with_share m own) (one_by l a shares)

shares-taken : (d : Domain) (name : List ℕ) (contracts : List Contract) (rows : List (List Bound)) (i : ℕ) (c : Contract) (bounds : List Bound) (l : Loads) → i < length contracts
    → length rows ≡ length contracts
    → fold with_share l (shares_at d name contracts rows)
    ≡ fold with_share (fold with_share l (shares_at d name (remove contracts i) (remove rows i))) (share_of d name (get_or contracts i c) (get_or rows i bounds))
unfolding shares_at
shares-taken d name [] rows i c bounds l inside long = absurd (omega (arith, inside))
shares-taken d name (own ∷ contracts) [] i c bounds l inside long = absurd (omega (arith, long))
shares-taken d name (own ∷ contracts) (row ∷ rows) zero c bounds l inside long =
    fold-append with_share l (share_of d name own row) (shares_at d name contracts rows) ∙ fold-swap l (share_of d name own row) (shares_at d name contracts rows)
shares-taken d name (own ∷ contracts) (row ∷ rows) (suc i) c bounds l inside long =
    fold-append with_share l (share_of d name own row) (shares_at d name contracts rows)
    ∙ shares-taken d name contracts rows i c bounds (fold with_share l (share_of d name own row)) (omega (arith, inside)) (omega (arith, long))
    ∙ ap (λ m. fold with_share m (share_of d name (get_or contracts i c) (get_or rows i bounds)))
    (sym (fold-append with_share l (share_of d name own row) (shares_at d name (remove contracts i) (remove rows i))))

pub sums-taken : (d : Domain) (contracts : List Contract) (rows : List (List Bound)) (i : ℕ) (c : Contract) (bounds : List Bound) (meters : List (List ℕ × Meter)) → i < length contracts
    → length rows ≡ length contracts
    → map (λ entry. sums_of entry.1.skew (shares_at d entry.0 contracts rows)) meters
    ≡ with_brought (λ name. share_of d name (get_or contracts i c) (get_or rows i bounds)) (keys_of meters)
    (map (λ entry. sums_of entry.1.skew (shares_at d entry.0 (remove contracts i) (remove rows i))) meters)
unfolding with_brought
sums-taken d contracts rows i c bounds [] inside long = refl
sums-taken d contracts rows i c bounds (entry ∷ meters) inside long =
    ap (λ l. l ∷ map (λ other. sums_of other.1.skew (shares_at d other.0 contracts rows)) meters)
    (shares-taken d entry.0 contracts rows i c bounds (no_loads entry.1.skew) inside long)
    ∙ ap (λ rest. fold with_share (sums_of entry.1.skew (shares_at d entry.0 (remove contracts i) (remove rows i)))
    (share_of d entry.0 (get_or contracts i c) (get_or rows i bounds)) ∷ rest) (sums-taken d contracts rows i c bounds meters inside long)

small_shares : (d : Domain) (name : List ℕ) (contracts : List Contract) (rows : List (List Bound)) (i : ℕ) → AllByRecursion IsSmall (shares_at d name contracts rows)
    → length rows ≡ length contracts → AllByRecursion IsSmall (shares_at d name (remove contracts i) (remove rows i))
unfolding shares_at
small_shares d name [] [] zero small long = small
small_shares d name [] [] (suc i) small long = small
small_shares d name [] (row ∷ rows) i small long = absurd (omega (arith, long))
small_shares d name (own ∷ contracts) [] i small long = absurd (omega (arith, long))
small_shares d name (own ∷ contracts) (row ∷ rows) zero small long = (all_parts IsSmall (share_of d name own row) (shares_at d name contracts rows) small).1
small_shares d name (own ∷ contracts) (row ∷ rows) (suc i) small long =
    let parts = all_parts IsSmall (share_of d name own row) (shares_at d name contracts rows) small in
    all_together IsSmall (share_of d name own row) (shares_at d name (remove contracts i) (remove rows i)) parts.0
    (small_shares d name contracts rows i parts.1 (omega (arith, long)))

small-taken : (d : Domain) (contracts : List Contract) (rows : List (List Bound)) (i : ℕ) (meters : List (List ℕ × Meter)) → length rows ≡ length contracts
    → AreSmall (λ name. shares_at d name contracts rows) meters → AreSmall (λ name. shares_at d name (remove contracts i) (remove rows i)) meters
small-taken d contracts rows i [] long small = tt
small-taken d contracts rows i (entry ∷ meters) long small =
    (small_shares d entry.0 contracts rows i small.0 long, small-taken d contracts rows i meters long small.1)

pub before-taken : (t : Table) (i : ℕ) (c : Contract) (bounds : List Bound) (sums : List Loads) → i < length t.contracts → length t.certificate ≡ length t.contracts → IsKept t sums
    → IsBefore (λ name. share_of t.domain name (get_or t.contracts i c) (get_or t.certificate i bounds)) (keys_of t.domain.meters) sums (loads_of (without_contract t i))
before-taken t i c bounds sums inside long kept = (
  length-map t.domain.meters (λ entry. sums_of entry.1.skew (shares_at t.domain entry.0 (remove t.contracts i) (remove t.certificate i))) ∙ sym (kept-long t sums kept),
  kept.sums ∙ sums-taken t.domain t.contracts t.certificate i c bounds t.domain.meters inside long,
)

pub kept-taken : (t : Table) (i : ℕ) (sums new : List Loads) → length t.certificate ≡ length t.contracts → IsKept t sums → new ≡ loads_of (without_contract t i)
    → IsKept (without_contract t i) new
kept-taken t i sums new long kept is_new = record {
  sums = is_new;
  small = small-taken t.domain t.contracts t.certificate i t.domain.meters long kept.small;
  short = kept.short;
}

-- ---- and it is acceptable still
abbrev IsUnder : Loads → Loads → Type 0
IsUnder l more = IsPart l.green more.green × IsPart l.all more.all × IsPart l.peaked more.peaked × (l.peaked_number ≤ more.peaked_number)

under_itself : (l : Loads) → IsUnder l l
under_itself l = ((omega arith, omega arith), (omega arith, omega arith), (omega arith, omega arith), omega arith)

part_through : (a b c : Curve) → IsPart a b → IsPart b c → IsPart a c
part_through a b c first second = (omega (arith, first.0, second.0), omega (arith, first.1, second.1))

under_through : (a b c : Loads) → IsUnder a b → IsUnder b c → IsUnder a c
under_through a b c first second = (
  part_through a.green b.green c.green first.0 second.0,
  part_through a.all b.all c.all first.1 second.1,
  part_through a.peaked b.peaked c.peaked first.2 second.2,
  omega (arith, first.3, second.3),
)

part_of_plus : (c more : Curve) → IsPart c (plus c more)
part_of_plus c more = (omega arith, omega arith)

peak_under : (p : Bool) (c more : Curve) → IsPart c (if p then plus c more else c)
peak_under true c more = part_of_plus c more
peak_under false c more = (omega arith, omega arith)

number_under : (p : Bool) (n : ℕ) → n ≤ (if p then n + 1 else n)
number_under true n = omega arith
number_under false n = omega arith

share_under : (l : Loads) (share : Share) → IsUnder l (with_share l share)
share_under l share = (
  part_of_plus l.green (widened l.skew (kept Green share)),
  part_of_plus l.all (widened l.skew (kept columns.All share)),
  peak_under share.has_peak l.peaked (widened l.skew (kept Excess share)),
  number_under share.has_peak l.peaked_number,
)

fold_under : (l : Loads) (shares : List Share) → IsUnder l (fold with_share l shares)
fold_under l [] = under_itself l
fold_under l (share ∷ shares) = under_through l (with_share l share) (fold with_share (with_share l share) shares) (share_under l share) (fold_under (with_share l share) shares)

counted_by : (x y : Bool) (l more : Loads) → nat_eq l.peaked_number 0 ≡ x → nat_eq more.peaked_number 0 ≡ y → IsUnder l more
    → IsPart (if x then nothing else l.all) (if y then nothing else more.all)
counted_by true y l more is are under = nothing_under y more.all
  where
    nothing_under : (y : Bool) (c : Curve) → IsPart nothing (if y then nothing else c)
    nothing_under true c = (omega arith, omega arith)
    nothing_under false c = (omega arith, omega arith)
counted_by false true l more is are under = absurd (grind (arith, is, are, under.3, nat_tests))
counted_by false false l more is are under = under.1

counted_under : (p : Parameters) (l more : Loads) → IsUnder l more → IsPart (counted_load p l) (counted_load p more)
counted_under (SrTcm p) l more under = counted_by (nat_eq l.peaked_number 0) (nat_eq more.peaked_number 0) l more refl refl under
counted_under (TrTcm p) l more under = under.1
counted_under (Rfc4115 p) l more under = under.2

within_less : (limit a b : Curve) → IsPart a b → IsWithin limit b → IsWithin limit a
within_less limit a b part within = (omega (arith, part.0, within.0), omega (arith, part.1, within.1))

fewer_carried : (m : Meter) (shares fewer : List Share) → IsUnder (sums_of m.skew fewer) (sums_of m.skew shares) → Carries m shares → Carries m fewer
fewer_carried m shares fewer under carries = (
  subst (IsWithin (green_limit m.parameters)) (green_is m.skew fewer)
      (within_less (green_limit m.parameters) (sums_of m.skew fewer).green (sums_of m.skew shares).green under.0
      (subst (IsWithin (green_limit m.parameters)) (sym (green_is m.skew shares)) carries.0)),
  subst (IsWithin (all_limit m.parameters)) (counted_is m.parameters m.skew fewer)
      (within_less (all_limit m.parameters) (counted_load m.parameters (sums_of m.skew fewer)) (counted_load m.parameters (sums_of m.skew shares))
      (counted_under m.parameters (sums_of m.skew fewer) (sums_of m.skew shares) under)
      (subst (IsWithin (all_limit m.parameters)) (sym (counted_is m.parameters m.skew shares)) carries.1)),
)

all_carried_without : (d : Domain) (contracts : List Contract) (rows : List (List Bound)) (i : ℕ) (c : Contract) (bounds : List Bound) (meters : List (List ℕ × Meter)) → i < length contracts
    → length rows ≡ length contracts → All (CarriesAt d contracts rows) meters → All (CarriesAt d (remove contracts i) (remove rows i)) meters
all_carried_without d contracts rows i c bounds meters inside long =
    All-weaker (CarriesAt d contracts rows) (CarriesAt d (remove contracts i) (remove rows i)) (λ entry.
    let fewer = shares_at d entry.0 (remove contracts i) (remove rows i) in
    let own = share_of d entry.0 (get_or contracts i c) (get_or rows i bounds) in
    fewer_carried entry.1 (shares_at d entry.0 contracts rows) fewer
    (subst (IsUnder (sums_of entry.1.skew fewer)) (sym (shares-taken d entry.0 contracts rows i c bounds (no_loads entry.1.skew) inside long))
    (fold_under (sums_of entry.1.skew fewer) own))) meters

certified_without : (d : Domain) (contracts : List Contract) (rows : List (List Bound)) (i : ℕ) → IsCertificate d contracts rows → IsCertificate d (remove contracts i) (remove rows i)
certified_without d [] [] zero met = tt
certified_without d [] [] (suc i) met = tt
certified_without d [] (row ∷ rows) i met = absurd met
certified_without d (c ∷ contracts) [] i met = absurd met
certified_without d (c ∷ contracts) (row ∷ rows) zero met = met.1
certified_without d (c ∷ contracts) (row ∷ rows) (suc i) met = (met.0, certified_without d contracts rows i met.1)

pub acceptable-taken : (t : Table) (i : ℕ) (c : Contract) (bounds : List Bound) → i < length t.contracts → IsAcceptable t → IsAcceptable (without_contract t i)
acceptable-taken t i c bounds inside met = (
  certified_without t.domain t.contracts t.certificate i met.0,
  all_carried_without t.domain t.contracts t.certificate i c bounds t.domain.meters inside (rows_long t.domain t.contracts t.certificate met.0) met.1,
)

-- the shape of what stands in an acceptable table
pub shape_at : (d : Domain) (contracts : List Contract) (rows : List (List Bound)) (i : ℕ) (c : Contract) (bounds : List Bound) → IsCertificate d contracts rows → i < length contracts
    → HasShape d (get_or contracts i c) (get_or rows i bounds)
shape_at d [] rows i c bounds met inside = absurd (omega (arith, inside))
shape_at d (own ∷ contracts) [] i c bounds met inside = absurd met
shape_at d (own ∷ contracts) (row ∷ rows) zero c bounds met inside = met.0.0
shape_at d (own ∷ contracts) (row ∷ rows) (suc i) c bounds met inside = shape_at d contracts rows i c bounds met.1 (omega (arith, inside))

-- ---- the table of an accepted one
abbrev pub table : Domain → List Contract → List (List Bound) → Table
table d contracts rows = record { domain = d; contracts = contracts; certificate = rows }

-- a table whose domain is read from where it is shared
pub sound-of : (d own : Domain) (contracts : List Contract) (rows : List (List Bound)) (sums : List Loads) → d ≡ own → IsSound (table own contracts rows) sums → IsSound (table d contracts rows) sums
sound-of d own contracts rows sums is sound = subst (λ (x : Domain). IsSound (table x contracts rows) sums) (sym is) sound

pub self-of : (d own : Domain) (contracts : List Contract) (rows : List (List Bound)) (self : Table) → d ≡ own → table own contracts rows ≡ self → table d contracts rows ≡ self
self-of d own contracts rows self is is_self = ap (λ (x : Domain). table x contracts rows) is ∙ is_self

pub refused-unshaped : (d : Domain) (contracts : List Contract) (rows : List (List Bound)) (sums : List Loads) (self : Table) (c : Contract) (bounds : List Bound) (number : ℕ) (answer : Bool)
    → IsSound (table d contracts rows) sums → table d contracts rows ≡ self → number ≡ length contracts
    → answer ≡ (fits d c && nat_eq (length bounds) (suc (length c.path))) → answer ≡ false → Some (Shape number) ≡ refusal_of (with_contract self c bounds)
unfolding is_shaped
refused-unshaped d contracts rows sums self c bounds number answer sound is_self is_number is_answer fails =
    sym (refused-shape (table d contracts rows) c bounds number sound.acceptable is_number (sym is_answer ∙ fails)) ∙ ap (λ t. refusal_of (with_contract t c bounds)) is_self

pub refused-shaped : (d : Domain) (contracts : List Contract) (rows : List (List Bound)) (sums own : List Loads) (self : Table) (c : Contract) (bounds hops : List Bound) (number : ℕ) (answer : Bool)
    (refusal found : Option Refusal) → IsSound (table d contracts rows) sums → table d contracts rows ≡ self → number ≡ length contracts → own ≡ sums → hops ≡ bounds
    → answer ≡ (fits d c && nat_eq (length bounds) (suc (length c.path))) → answer ≡ true
    → refusal ≡ first_failed (tests_along number (source_of d c) (jitters_of d c) bounds)
    → found ≡ first_failed (sums_tests d.meters (with_brought (λ name. share_of d name c hops) (keys_of d.meters) own))
    → option_or refusal found ≡ refusal_of (with_contract self c bounds)
unfolding is_shaped
refused-shaped d contracts rows sums own self c bounds hops number answer refusal found sound is_self is_number is_own is_hops is_answer holds is_refusal is_found =
    ap (λ r. option_or r found) is_refusal
    ∙ ap (option_or (first_failed (tests_along number (source_of d c) (jitters_of d c) bounds)))
    (is_found ∙ ap (λ b. first_failed (sums_tests d.meters (with_brought (λ name. share_of d name c b) (keys_of d.meters) own))) is_hops
    ∙ ap (λ list. first_failed (sums_tests d.meters (with_brought (λ name. share_of d name c bounds) (keys_of d.meters) list))) is_own)
    ∙ sym (refused-behind (table d contracts rows) c bounds sums number sound.acceptable sound.kept.sums is_number (sym is_answer ∙ holds))
    ∙ ap (λ t. refusal_of (with_contract t c bounds)) is_self

-- the least bounds of a contract that fits are never too low: what is left are the meters
pub refused-least : (d : Domain) (contracts : List Contract) (rows : List (List Bound)) (sums own : List Loads) (self : Table) (c : Contract) (bounds : List Bound) (found : Option Refusal)
    → IsSound (table d contracts rows) sums → table d contracts rows ≡ self → own ≡ sums → IsTrue (fits d c) → bounds ≡ least_of d c
    → found ≡ first_failed (sums_tests d.meters (with_brought (λ name. share_of d name c bounds) (keys_of d.meters) own))
    → found ≡ refusal_of (with_contract self c bounds)
unfolding is_shaped
refused-least d contracts rows sums own self c bounds found sound is_self is_own fit least is_found =
    let shape : HasShape d c bounds = subst (HasShape d c) (sym least) (HasShape-least d c fit) in
    let met : Meets d c bounds = subst (Meets d c) (sym least) (Meets-least d c) in
    let none : first_failed (tests_along (length contracts) (source_of d c) (jitters_of d c) bounds) ≡ None =
    met_by (length contracts) (source_of d c) (jitters_of d c) bounds (in_column (λ k. MeetsIn k (source_of d c) (jitters_of d c) bounds) met) in
    refused-shaped d contracts rows sums own self c bounds bounds (length contracts) true None found sound is_self refl is_own refl (sym (has_shape d c bounds shape)) refl (sym none) is_found

-- whenever it begins and ends
pub refused-lasting : (d : Domain) (contracts : List Contract) (rows : List (List Bound)) (sums own : List Loads) (self : Table) (c : Contract) (lifetime : Span) (found : Option Refusal)
    → IsSound (table d contracts rows) sums → table d contracts rows ≡ self → own ≡ sums → IsTrue (fits d c)
    → found ≡ first_failed (sums_tests d.meters (with_brought (λ name. share_of d name c (least_of d c)) (keys_of d.meters) own))
    → found ≡ refusal_of (with_contract self (lasting lifetime c) (least_of self.domain (lasting lifetime c)))
unfolding source_of
refused-lasting d contracts rows sums own self c lifetime found sound is_self is_own fit is_found =
    let other = lasting lifetime c in
    refused-least d contracts rows sums own self other (least_of d other) found sound is_self is_own fit refl is_found
    ∙ ap (λ (t : Table). refusal_of (with_contract self other (least_of t.domain other))) is_self

pub found_by_bounds : (d : Domain) (contracts : List Contract) (rows : List (List Bound)) (sums : List Loads) (self : Table) (c : Contract) (bounds : List Bound) (number : ℕ) (answer : Bool)
    (refusal : Option Refusal) → IsSound (table d contracts rows) sums → table d contracts rows ≡ self → number ≡ length contracts
    → answer ≡ (fits d c && nat_eq (length bounds) (suc (length c.path))) → answer ≡ true
    → refusal ≡ first_failed (tests_along number (source_of d c) (jitters_of d c) bounds) → is_some refusal ≡ true
    → refusal ≡ refusal_of (with_contract self c bounds)
found_by_bounds d contracts rows sums self c bounds number answer refusal sound is_self is_number is_answer holds is_refusal some =
    found refusal _ (refusal_of (with_contract self c bounds)) some
    (refused-shaped d contracts rows sums sums self c bounds bounds number answer refusal _ sound is_self is_number refl refl is_answer holds is_refusal refl)

-- the last of what an acceptable table holds
pub last_shape : (d : Domain) (contracts : List Contract) (rows : List (List Bound)) (c : Contract) (bounds : List Bound) → length rows ≡ length contracts
    → IsCertificate d (contracts ++ c ∷ []) (rows ++ bounds ∷ []) → HasShape d c bounds
last_shape d [] [] c bounds long met = met.0.0
last_shape d [] (row ∷ rows) c bounds long met = absurd (omega (arith, long))
last_shape d (own ∷ contracts) [] c bounds long met = absurd (omega (arith, long))
last_shape d (own ∷ contracts) (row ∷ rows) c bounds long met = last_shape d contracts rows c bounds (omega (arith, long)) met.1

larger : (d : Domain) (contracts : List Contract) (rows : List (List Bound)) (self : Table) (c : Contract) (bounds : List Bound) → table d contracts rows ≡ self
    → refusal_of (with_contract self c bounds) ≡ None → IsAcceptable (with_contract (table d contracts rows) c bounds)
larger d contracts rows self c bounds is_self none =
    acceptable (with_contract (table d contracts rows) c bounds) (ap (λ t. refusal_of (with_contract t c bounds)) is_self ∙ none)

pub shape-more : (d : Domain) (contracts : List Contract) (rows : List (List Bound)) (sums : List Loads) (self : Table) (c : Contract) (bounds hops : List Bound)
    → IsSound (table d contracts rows) sums → table d contracts rows ≡ self → refusal_of (with_contract self c bounds) ≡ None → hops ≡ bounds → HasShape d c hops
shape-more d contracts rows sums self c bounds hops sound is_self none is_hops =
    subst (HasShape d c) (sym is_hops)
    (last_shape d contracts rows c bounds (rows_long d contracts rows sound.acceptable.0) (larger d contracts rows self c bounds is_self none).0)

pub last-inside : (d : Domain) (contracts : List Contract) (rows list : List (List Bound)) (sums : List Loads) (bounds : List Bound) (number : ℕ) → IsSound (table d contracts rows) sums
    → number ≡ length contracts → list ≡ rows ++ bounds ∷ [] → number < length list
last-inside d contracts rows list sums bounds number sound is_number is =
    omega (arith, is_number, ap length is, length-append rows (bounds ∷ []), rows_long d contracts rows sound.acceptable.0)

pub last-row : (d : Domain) (contracts : List Contract) (rows list : List (List Bound)) (sums : List Loads) (bounds row : List Bound) (number : ℕ) → IsSound (table d contracts rows) sums
    → number ≡ length contracts → list ≡ rows ++ bounds ∷ [] → row ≡ get_or list number row → row ≡ bounds
last-row d contracts rows list sums bounds row number sound is_number is is_row =
    is_row ∙ ap (λ l. get_or l number row) is ∙ get_or_push rows bounds row number (sym (is_number ∙ sym (rows_long d contracts rows sound.acceptable.0)))

-- sums that a contract was added to, where they were lent
pub kept-more : (t : Table) (c : Contract) (bounds hops : List Bound) (sums given made after : List Loads) (len : ℕ) → length t.certificate ≡ length t.contracts → IsKept t sums
    → hops ≡ bounds → given ≡ sums → length given ≡ len → made ≡ with_brought (λ name. share_of t.domain name c hops) (keys_of t.domain.meters) given
    → AreSmall (λ name. share_of t.domain name c hops) t.domain.meters → after ≡ take len (made ++ drop (length made) sums) → IsKept (with_contract t c bounds) after
kept-more t c bounds hops sums given made after len level kept is_hops is_given is_len is_made small is_after =
    let said = is_made ∙ ap (λ b. with_brought (λ name. share_of t.domain name c b) (keys_of t.domain.meters) given) is_hops
    ∙ ap (with_brought (λ name. share_of t.domain name c bounds) (keys_of t.domain.meters)) is_given in
    let long = kept-long t sums kept in
    let made_long = places_kept (λ name. share_of t.domain name c bounds) t.domain.meters sums made said long in
    subst (IsKept (with_contract t c bounds)) (sym (is_after ∙ written len made sums given is_given is_len (made_long ∙ sym (ap length is_given ∙ long))))
    (kept-grown t c bounds sums made level kept said (subst (λ b. AreSmall (λ name. share_of t.domain name c b) t.domain.meters) is_hops small))

-- ---- a loop over contracts: the sums of none, of one more, and of all
pub kept-none : (d : Domain) (sums : List Loads) → sums ≡ map (λ entry. no_loads entry.1.skew) d.meters → AllByRecursion (λ entry. entry.1.skew ≤ 10 ^ 10) d.meters
    → IsKept (table d [] []) sums
unfolding shares_at
kept-none d sums is short = record { sums = is; small = none_small d.meters; short = short }
  where
    none_small : (meters : List (List ℕ × Meter)) → AreSmall (λ name. shares_at d name [] []) meters
    none_small [] = tt
    none_small (entry ∷ meters) = (tt, none_small meters)

pub kept-next : (d : Domain) (contracts : List Contract) (rows : List (List Bound)) (i : ℕ) (c : Contract) (bounds hops : List Bound) (sums given made after : List Loads) (len : ℕ)
    → i < length contracts → i < length rows → c ≡ get_or contracts i c → bounds ≡ get_or rows i bounds → IsKept (table d (take i contracts) (take i rows)) sums
    → hops ≡ bounds → given ≡ sums → length given ≡ len → made ≡ with_brought (λ name. share_of d name c hops) (keys_of d.meters) given
    → AreSmall (λ name. share_of d name c hops) d.meters → after ≡ take len (made ++ drop (length made) sums) → IsKept (table d (take (i + 1) contracts) (take (i + 1) rows)) after
kept-next d contracts rows i c bounds hops sums given made after len inside within is_contract is_row kept is_hops is_given is_len is_made small is_after =
    subst (λ list. IsKept (table d list (take (i + 1) rows)) after) (sym (take_more contracts i c inside ∙ ap (λ x. take i contracts ++ x ∷ []) (sym is_contract)))
    (subst (λ list. IsKept (table d (take i contracts ++ c ∷ []) list) after) (sym (take_more rows i bounds within ∙ ap (λ x. take i rows ++ x ∷ []) (sym is_row)))
    (kept-more (table d (take i contracts) (take i rows)) c bounds hops sums given made after len
    (length-take-le i rows (omega (arith, within)) ∙ sym (length-take-le i contracts (omega (arith, inside)))) kept is_hops is_given is_len is_made small is_after))

pub kept-whole : (t : Table) (contracts : List Contract) (rows : List (List Bound)) (sums : List Loads) (i : ℕ) → contracts ≡ t.contracts → rows ≡ t.certificate → length contracts ≤ i
    → length rows ≤ i → IsKept (table t.domain (take i contracts) (take i rows)) sums → IsKept t sums
kept-whole t contracts rows sums i is_contracts is_rows ended over kept =
    subst (λ list. IsKept (table t.domain list t.certificate) sums) (take_all i contracts ended ∙ is_contracts)
    (subst (λ list. IsKept (table t.domain (take i contracts) list) sums) (take_all i rows over ∙ is_rows) kept)

pub sound-more : (d : Domain) (contracts new : List Contract) (rows new_rows : List (List Bound)) (sums given made after : List Loads) (self : Table) (c : Contract) (bounds hops : List Bound) (len : ℕ)
    → IsSound (table d contracts rows) sums → table d contracts rows ≡ self → refusal_of (with_contract self c bounds) ≡ None
    → new ≡ contracts ++ c ∷ [] → new_rows ≡ rows ++ bounds ∷ [] → hops ≡ bounds → given ≡ sums → length given ≡ len
    → made ≡ with_brought (λ name. share_of d name c hops) (keys_of d.meters) given → AreSmall (λ name. share_of d name c hops) d.meters
    → after ≡ take len (made ++ drop (length made) sums)
    → IsSound (table d new new_rows) after
sound-more d contracts new rows new_rows sums given made after self c bounds hops len sound is_self none is_new is_rows is_hops is_given is_len is_made small is_after =
    let kept = kept-more (table d contracts rows) c bounds hops sums given made after len (rows_long d contracts rows sound.acceptable.0) sound.kept is_hops is_given is_len is_made small is_after in
    subst (λ list. IsSound (table d list new_rows) after) (sym is_new)
    (subst (λ list. IsSound (table d (contracts ++ c ∷ []) list) after) (sym is_rows)
    (record { acceptable = larger d contracts rows self c bounds is_self none; kept = kept }))

pub row-inside : (d : Domain) (contracts : List Contract) (rows : List (List Bound)) (sums : List Loads) (i : ℕ) → IsSound (table d contracts rows) sums → i < length contracts → i < length rows
row-inside d contracts rows sums i sound inside = omega (arith, inside, rows_long d contracts rows sound.acceptable.0)

pub shape-less : (d : Domain) (contracts : List Contract) (rows : List (List Bound)) (sums : List Loads) (i : ℕ) (c : Contract) (bounds hops : List Bound) → IsSound (table d contracts rows) sums
    → i < length contracts → c ≡ get_or contracts i c → bounds ≡ get_or rows i bounds → hops ≡ bounds → HasShape d c hops
shape-less d contracts rows sums i c bounds hops sound inside is_contract is_bounds is_hops =
    subst (HasShape d c) (sym is_hops)
    (subst (λ own. HasShape d own bounds) (sym is_contract) (subst (HasShape d (get_or contracts i c)) (sym is_bounds) (shape_at d contracts rows i c bounds sound.acceptable.0 inside)))

pub before-less : (d : Domain) (contracts : List Contract) (rows : List (List Bound)) (sums given : List Loads) (i : ℕ) (c : Contract) (bounds hops : List Bound) → IsSound (table d contracts rows) sums
    → i < length contracts → c ≡ get_or contracts i c → bounds ≡ get_or rows i bounds → hops ≡ bounds → given ≡ sums
    → IsBefore (λ name. share_of d name c hops) (keys_of d.meters) given (loads_of (without_contract (table d contracts rows) i))
before-less d contracts rows sums given i c bounds hops sound inside is_contract is_bounds is_hops is_given =
    let before = loads_of (without_contract (table d contracts rows) i) in
    subst (λ own. IsBefore (λ name. share_of d name c hops) (keys_of d.meters) own before) (sym is_given)
    (subst (λ b. IsBefore (λ name. share_of d name c b) (keys_of d.meters) sums before) (sym is_hops)
    (subst (λ own. IsBefore (λ name. share_of d name own bounds) (keys_of d.meters) sums before) (sym is_contract)
    (subst (λ b. IsBefore (λ name. share_of d name (get_or contracts i c) b) (keys_of d.meters) sums before) (sym is_bounds)
    (before-taken (table d contracts rows) i c bounds sums inside (rows_long d contracts rows sound.acceptable.0) sound.kept))))

pub sound-less : (d : Domain) (contracts new : List Contract) (rows new_rows : List (List Bound)) (sums given made after : List Loads) (i : ℕ) (c : Contract) (bounds : List Bound) (len : ℕ)
    → IsSound (table d contracts rows) sums → i < length contracts → new ≡ remove contracts i → new_rows ≡ remove rows i → given ≡ sums → length given ≡ len
    → made ≡ loads_of (without_contract (table d contracts rows) i) → after ≡ take len (made ++ drop (length made) sums)
    → IsSound (table d new new_rows) after
sound-less d contracts new rows new_rows sums given made after i c bounds len sound inside is_new is_rows is_given is_len is_made is_after =
    let t = table d contracts rows in
    let long = kept-long t sums sound.kept in
    let rows_are = rows_long d contracts rows sound.acceptable.0 in
    let made_long : length made ≡ length d.meters =
    ap length is_made ∙ length-map d.meters (λ entry. sums_of entry.1.skew (shares_at d entry.0 (remove contracts i) (remove rows i))) in
    let is : after ≡ made = is_after ∙ written len made sums given is_given is_len (made_long ∙ sym (ap length is_given ∙ long)) in
    subst (λ list. IsSound (table d list new_rows) after) (sym is_new)
    (subst (λ list. IsSound (table d (remove contracts i) list) after) (sym is_rows)
    (subst (IsSound (without_contract t i)) (sym is)
    (record { acceptable = acceptable-taken t i c bounds inside sound.acceptable; kept = kept-taken t i sums made rows_are sound.kept is_made })))

-- ---- one contract more is refused for its own tests alone
off_path : (d : Domain) (contracts : List Contract) (rows : List (List Bound)) (c : Contract) (bounds : List Bound) (name : List ℕ) → length rows ≡ length contracts
    → list_any (bytes_eq name) c.path ≡ false → shares_at d name (contracts ++ c ∷ []) (rows ++ bounds ∷ []) ≡ shares_at d name contracts rows
off_path d contracts rows c bounds name long off =
    shares_at-append d name contracts rows c bounds long
    ∙ ap (λ f. shares_at d name contracts rows ++ option_to_list (option_map (λ bound. record { source = source_of d c; bound = bound; has_peak = has_peak c.terms }) f))
    (bound_into-absent name c.path (drop 1 bounds) off)
    ∙ append-nil (shares_at d name contracts rows)

on_path_by : (b : Bool) (d : Domain) (contracts : List Contract) (rows : List (List Bound)) (c : Contract) (bounds : List Bound) (entry : List ℕ × Meter) (meters : List (List ℕ × Meter))
    → is_on c.path entry ≡ b → length rows ≡ length contracts → Carries entry.1 (shares_at d entry.0 contracts rows)
    → first_failed (table_tests d (contracts ++ c ∷ []) (rows ++ bounds ∷ []) meters)
    ≡ first_failed (table_tests d (contracts ++ c ∷ []) (rows ++ bounds ∷ []) (filter (is_on c.path) meters))
    → first_failed (table_tests d (contracts ++ c ∷ []) (rows ++ bounds ∷ []) (entry ∷ meters))
    ≡ first_failed (table_tests d (contracts ++ c ∷ []) (rows ++ bounds ∷ []) (filter (is_on c.path) (entry ∷ meters)))
unfolding table_tests
on_path_by true d contracts rows c bounds entry meters is long carries behind =
    let own = meter_tests entry.0 entry.1 (shares_at d entry.0 (contracts ++ c ∷ []) (rows ++ bounds ∷ [])) in
    rw is
    (first_failed-append own (table_tests d (contracts ++ c ∷ []) (rows ++ bounds ∷ []) meters)
    ∙ ap (option_or (first_failed own)) behind
    ∙ sym (first_failed-append own (table_tests d (contracts ++ c ∷ []) (rows ++ bounds ∷ []) (filter (is_on c.path) meters))))
on_path_by false d contracts rows c bounds entry meters is long carries behind =
    rw is
    (first_failed-append (meter_tests entry.0 entry.1 (shares_at d entry.0 (contracts ++ c ∷ []) (rows ++ bounds ∷ [])))
    (table_tests d (contracts ++ c ∷ []) (rows ++ bounds ∷ []) meters)
    ∙ ap (λ f. option_or f (first_failed (table_tests d (contracts ++ c ∷ []) (rows ++ bounds ∷ []) meters)))
    (ap (λ shares. first_failed (meter_tests entry.0 entry.1 shares)) (off_path d contracts rows c bounds entry.0 long is)
    ∙ carried entry.0 entry.1 (shares_at d entry.0 contracts rows) carries)
    ∙ behind)

on_path : (d : Domain) (contracts : List Contract) (rows : List (List Bound)) (c : Contract) (bounds : List Bound) (meters : List (List ℕ × Meter)) → length rows ≡ length contracts
    → All (CarriesAt d contracts rows) meters
    → first_failed (table_tests d (contracts ++ c ∷ []) (rows ++ bounds ∷ []) meters)
    ≡ first_failed (table_tests d (contracts ++ c ∷ []) (rows ++ bounds ∷ []) (filter (is_on c.path) meters))
on_path d contracts rows c bounds [] long met = refl
on_path d contracts rows c bounds (entry ∷ meters) long met =
    on_path_by (is_on c.path entry) d contracts rows c bounds entry meters refl long (All-head (CarriesAt d contracts rows) entry meters met)
    (on_path d contracts rows c bounds meters long (All-tail (CarriesAt d contracts rows) entry meters met))

own_by : (b : Bool) (t : Table) (c : Contract) (bounds : List Bound) → is_shaped t.domain c bounds ≡ b → IsAcceptable t → refusal_of (with_contract t c bounds) ≡ own_refusal t c bounds
unfolding is_shaped
own_by true t c bounds is met =
    let d = t.domain in
    let long = rows_long d t.contracts t.certificate met.0 in
    let own = tests_along (length t.contracts) (source_of d c) (jitters_of d c) bounds in
    let rows = t.certificate ++ bounds ∷ [] in
    let contracts = t.contracts ++ c ∷ [] in
    rw is
    (refused-behind t c bounds (loads_of t) (length t.contracts) met refl refl is
    ∙ ap (option_or (first_failed own))
    (ap (λ sums. first_failed (sums_tests d.meters sums)) (sums-grown d t.contracts t.certificate c bounds d.meters long)
    ∙ ap first_failed (sums_tests-are d contracts rows d.meters) ∙ on_path d t.contracts t.certificate c bounds d.meters long met.1)
    ∙ sym (first_failed-append own (table_tests d contracts rows (filter (is_on c.path) d.meters))))
own_by false t c bounds is met = rw is (refused-shape t c bounds (length t.contracts) met refl is)

pub refused-for-its-own : (t : Table) (c : Contract) (bounds : List Bound) → IsAcceptable t → refusal_of (with_contract t c bounds) ≡ own_refusal t c bounds
refused-for-its-own t c bounds met = own_by (is_shaped t.domain c bounds) t c bounds refl met
