-- The overflow of sources over packets contract by contract is that of each contract by itself.
use Rattle.std.proofs.Common.{◌≡◌, inl, inr, ℕ, zero, suc, ◌+◌, ◌*◌, ◌<◌, ◌≤◌, Bool, true, false, cond, List, [], ◌∷◌, map, get_or, take, drop, Option, None, Some, refl, sym, ap, subst, ◌∙◌, arith, nat_eq, nat_le, nat_lt, ◌&&◌, ◌||◌, slice_get, option_and_then, option_map, if◌then◌else◌}
use Rattle.std.specs.List.{All, enumerate_from, filter}
use Rattle.std.specs.Map.{keys_of, values_of}
use Rattle.std.proofs.lemmas.Bool.{false≢true}
use Rattle.std.proofs.lemmas.Bool.Decides.{nat_tests}
use Rattle.std.proofs.lemmas.List.Elements.{All-cons, All-filter, All-head, All-tail, All-weaker, filter_passes}
use Rattle.std.proofs.lemmas.List.Kept.{AllPairs-filter}
use Rattle.std.proofs.lemmas.List.Sorted.{Contains-permutation, IsPermutation-sym}
use Rattle.moment_core.specs.declared.colour.Colour.{Colour}
use Rattle.moment_core.specs.Columns.{counts, each_column}
use Rattle.moment_core.specs.declared.column.Column.{Column}
use Rattle.envelope_core.specs.Curve.{Curve}
use Rattle.envelope_core.specs.LeakyBucket.{filled, overflow_from, overflow_of}
use Rattle.ds_domain_base.specs.Sent.{came}
use Rattle.ds_domain_base.specs.declared.contract.Contract.{Contract}
use Rattle.ds_domain_base.specs.declared.terms.Terms.{Terms}
use Rattle.ds_domain_base.specs.declared.terms.Terms.TheVariants.{Trusted, Policed}
use Rattle.ds_certificate.specs.Columns.{envelope_in}
use Rattle.ds_certificate.specs.Sources.{source_of}
use Rattle.meter_fabric_base.specs.Grounds.{Ground, contract_of}
use Rattle.meter_fabric_base.specs.declared.trail.Receipt.{Receipt}
use Rattle.run_audit.specs.Premises.{IsTrusted}
use Rattle.run_audit.specs.Runs.{IsRun, Passage, Run}
use Rattle.run_audit.specs.Sendings.{passages_of, sending_by, sending_of, sent_items}
use Rattle.run_audit.specs.Bases.{IsCounted}
use Rattle.run_audit.specs.Spills.{own_length, poured, spilled, spilled_by, spilled_from, spilled_in}
use Rattle.run_audit.specs.Standings.{by_contract, stands_before}
use Rattle.run_audit.specs.Verdicts.{first_of, is_begun_before, over_by, over_in, overflowing, sent_in, first_found, source_of_run, over_at, was_sent_as}
use Rattle.run_audit.specs.declared.verdict.Verdict.TheVariants.{SourceOver}
use Rattle.run_audit.proofs.BasisLaws.{counted_at}
use Rattle.run_audit.proofs.MemberLaws.{in_filter, of_filter}
use Rattle.meter_fabric_base.proofs.OrderLaws.{AreApart, Ascends, HasAllOf, IsOrder, in_order-ascends, in_order-is, in_order-permutes}
use Rattle.run_audit.proofs.PremiseSourceLaws.{item_of, items_sent}
use Rattle.run_audit.proofs.SortLaws.{either_stands, standing_order}

-- ---- what a test leaves of a list

Ascends-filter : {A : Type 0} (before : A → A → Bool) (test : A → Bool) (xs : List A) → Ascends before xs → Ascends before (filter test xs)
unfolding Ascends
Ascends-filter before test [] rises = tt
Ascends-filter before test (x ∷ xs) rises = by_test (test x) (Ascends-filter before test xs rises.1)
  where
    by_test : (b : Bool) → Ascends before (filter test xs) → Ascends before (cond b (x ∷ filter test xs) (filter test xs))
    by_test true further = (All-filter test (λ y. before x y ≡ true) xs rises.0, further)
    by_test false further = further

filter_all : {A : Type 0} (test : A → Bool) (xs : List A) → All (λ x. test x ≡ true) xs → filter test xs ≡ xs
filter_all test [] all = refl
filter_all test (x ∷ xs) all = rw (All-head (λ y. test y ≡ true) x xs all) (ap (λ ys. x ∷ ys) (filter_all test xs (All-tail (λ y. test y ≡ true) x xs all)))

filter_none : {A : Type 0} (test : A → Bool) (xs : List A) → All (λ x. test x ≡ false) xs → filter test xs ≡ []
filter_none test [] none = refl
filter_none test (x ∷ xs) none = rw (All-head (λ y. test y ≡ false) x xs none) (filter_none test xs (All-tail (λ y. test y ≡ false) x xs none))

-- a weaker test before a test changes nothing
filter_twice : {A : Type 0} (p q : A → Bool) → ((x : A) → p x ≡ true → q x ≡ true) → (xs : List A) → filter p (filter q xs) ≡ filter p xs
filter_twice p q weaker [] = refl
filter_twice p q weaker (x ∷ xs) = by_test (q x) refl (filter_twice p q weaker xs)
  where
    left_out : (b : Bool) → p x ≡ b → q x ≡ false → filter p (filter q xs) ≡ filter p xs → filter p (filter q xs) ≡ cond b (x ∷ filter p xs) (filter p xs)
    left_out true passes fails same = absurd (false≢true (sym fails ∙ weaker x passes))
    left_out false passes fails same = same

    by_test : (b : Bool) → q x ≡ b → filter p (filter q xs) ≡ filter p xs → filter p (cond b (x ∷ filter q xs) (filter q xs)) ≡ cond (p x) (x ∷ filter p xs) (filter p xs)
    by_test true passes same = ap (λ ys. cond (p x) (x ∷ ys) ys) same
    by_test false fails same = left_out (p x) refl fails same

HasAllOf-filter : {A : Type 0} (test : A → Bool) (xs ys : List A) → HasAllOf xs ys → HasAllOf (filter test xs) (filter test ys)
HasAllOf-filter test xs ys all z there = in_filter test xs z (all z (of_filter test ys z there).0) (of_filter test ys z there).1

-- ---- the packets of a contract stand in front of those of later ones

abbrev is_of : ℕ → Passage → Bool
is_of n p = nat_eq p.packet.flow n

abbrev is_from : ℕ → Passage → Bool
is_from n p = nat_le n p.packet.flow

flow_climbs : (f b n f' b' n' : ℕ) → (nat_lt f f' || nat_eq f f' && (nat_lt b b' || nat_eq b b' && nat_lt n n')) ≡ true → f ≤ f'
flow_climbs f b n f' b' n' before = grind (arith, nat_tests)

front_and_rest : (n : ℕ) (ps : List Passage) → Ascends stands_before ps → All (λ p. n ≤ p.packet.flow) ps
    → (take (own_length n ps) ps ≡ filter (is_of n) ps) × (drop (own_length n ps) ps ≡ filter (is_from (suc n)) ps)
unfolding Ascends
front_and_rest n [] rises high = (refl, refl)
front_and_rest n (p ∷ ps) rises high =
    by_test (nat_le p.packet.flow n) refl (front_and_rest n ps rises.1 (All-tail (λ q. n ≤ q.packet.flow) p ps high))
  where
    own : (f : ℕ) → n ≤ f → nat_le f n ≡ true → (nat_eq f n ≡ true) × (nat_le (suc n) f ≡ false)
    own f least low = (grind (arith, nat_tests), grind (arith, nat_tests))

    above : (f : ℕ) → nat_le f n ≡ false → n < f
    above f high = grind (arith, nat_tests)

    not_own : (f : ℕ) → n < f → nat_eq f n ≡ false
    not_own f high = grind (arith, nat_tests)

    later : (f : ℕ) → n < f → nat_le (suc n) f ≡ true
    later f high = grind (arith, nat_tests)

    climbs : (q : Passage) → nat_le p.packet.flow n ≡ false → stands_before p q ≡ true → n < q.packet.flow
    climbs q over before =
        let rises = flow_climbs p.packet.flow p.packet.begun p.packet.number q.packet.flow q.packet.begun q.packet.number before in
        omega (arith, above p.packet.flow over, rises)

    all_above : nat_le p.packet.flow n ≡ false → All (λ q. n < q.packet.flow) (p ∷ ps)
    all_above over =
        All-cons (λ q. n < q.packet.flow) p ps (above p.packet.flow over)
        (All-weaker (λ q. stands_before p q ≡ true) (λ q. n < q.packet.flow) (λ q before. climbs q over before) ps rises.0)

    by_test : (b : Bool) → nat_le p.packet.flow n ≡ b
        → (take (own_length n ps) ps ≡ filter (is_of n) ps) × (drop (own_length n ps) ps ≡ filter (is_from (suc n)) ps)
        → (take (cond b (1 + own_length n ps) 0) (p ∷ ps) ≡ filter (is_of n) (p ∷ ps)) × (drop (cond b (1 + own_length n ps) 0) (p ∷ ps) ≡ filter (is_from (suc n)) (p ∷ ps))
    by_test true low further =
        let is = own p.packet.flow (All-head (λ q. n ≤ q.packet.flow) p ps high) low in
        let front : take (suc (own_length n ps)) (p ∷ ps) ≡ filter (is_of n) (p ∷ ps) = rw is.0 (ap (λ qs. p ∷ qs) further.0) in
        let rest : drop (suc (own_length n ps)) (p ∷ ps) ≡ filter (is_from (suc n)) (p ∷ ps) = rw is.1 further.1 in
        let one : 1 + own_length n ps ≡ suc (own_length n ps) = omega arith in
        (ap (λ m. take m (p ∷ ps)) one ∙ front, ap (λ m. drop m (p ∷ ps)) one ∙ rest)
    by_test false over further = (
      sym (filter_none (is_of n) (p ∷ ps) (All-weaker (λ q. n < q.packet.flow) (λ q. is_of n q ≡ false) (λ q high. not_own q.packet.flow high) (p ∷ ps) (all_above over))),
      sym (filter_all (is_from (suc n)) (p ∷ ps) (All-weaker (λ q. n < q.packet.flow) (λ q. is_from (suc n) q ≡ true) (λ q high. later q.packet.flow high) (p ∷ ps) (all_above over))),
    )

split : (n : ℕ) (ps : List Passage) → Ascends stands_before ps
    → (take (own_length n (filter (is_from n) ps)) (filter (is_from n) ps) ≡ filter (is_of n) ps)
    × (drop (own_length n (filter (is_from n) ps)) (filter (is_from n) ps) ≡ filter (is_from (suc n)) ps)
split n ps rises =
    let left = filter (is_from n) ps in
    let high = All-weaker (λ p. is_from n p ≡ true) (λ p. n ≤ p.packet.flow) (λ p from. at_least p.packet.flow from) left (filter_passes (is_from n) ps) in
    let parts = front_and_rest n left (Ascends-filter stands_before (is_from n) ps rises) high in (
      parts.0 ∙ filter_twice (is_of n) (is_from n) (λ p own. from_own p.packet.flow own) ps,
      parts.1 ∙ filter_twice (is_from (suc n)) (is_from n) (λ p later. from_later p.packet.flow later) ps,
    )
  where
    at_least : (f : ℕ) → nat_le n f ≡ true → n ≤ f
    at_least f from = grind (arith, nat_tests)

    from_own : (f : ℕ) → nat_eq f n ≡ true → nat_le n f ≡ true
    from_own f own = grind (arith, nat_tests)

    from_later : (f : ℕ) → nat_le (suc n) f ≡ true → nat_le n f ≡ true
    from_later f later = grind (arith, nat_tests)

-- ---- those of one contract stand as they begin

is_less-one_way : (b n b' n' : ℕ) → (nat_lt b b' || nat_eq b b' && nat_lt n n') ≡ true → (nat_lt b' b || nat_eq b' b && nat_lt n' n) ≡ false
is_less-one_way b n b' n' less = grind (arith, nat_tests)

is_less-through : (b n b' n' c m : ℕ) → (nat_lt b b' || nat_eq b b' && nat_lt n n') ≡ true → (nat_lt b' c || nat_eq b' c && nat_lt n' m) ≡ true → (nat_lt b c || nat_eq b c && nat_lt n m) ≡ true
is_less-through b n b' n' c m less next = grind (arith, nat_tests)

is_less-either : (b n b' n' : ℕ) → ¬ (n ≡ n') → (nat_lt b b' || nat_eq b b' && nat_lt n n') ≡ false → (nat_lt b' b || nat_eq b' b && nat_lt n' n) ≡ true
is_less-either b n b' n' apart last = grind (arith, nat_tests)

is_less-within : (f b n f' b' n' : ℕ) → f ≡ f' → (nat_lt f f' || nat_eq f f' && (nat_lt b b' || nat_eq b b' && nat_lt n n')) ≡ true → (nat_lt b b' || nat_eq b b' && nat_lt n n') ≡ true
is_less-within f b n f' b' n' same less = grind (arith, nat_tests)

pub begun_order : IsOrder is_begun_before
begun_order = record {
  one_way = λ p q less. is_less-one_way p.packet.begun p.packet.number q.packet.begun q.packet.number less;
  through = λ p q r less next. is_less-through p.packet.begun p.packet.number q.packet.begun q.packet.number r.packet.begun r.packet.number less next;
}

either_begun : (p q : Passage) → ¬ (p.packet.number ≡ q.packet.number) → AreApart is_begun_before p q
either_begun p q apart = by_test (is_begun_before p q) refl
  where
    by_test : (b : Bool) → is_begun_before p q ≡ b → AreApart is_begun_before p q
    by_test true first = inl first
    by_test false last = inr (is_less-either p.packet.begun p.packet.number q.packet.begun q.packet.number apart last)

ascends-begun : (n : ℕ) (ps : List Passage) → All (λ p. p.packet.flow ≡ n) ps → Ascends stands_before ps → Ascends is_begun_before ps
unfolding Ascends
ascends-begun n [] own rises = tt
ascends-begun n (p ∷ ps) own rises = (
  (λ k d short.
      let q = get_or ps k d in
      let same : p.packet.flow ≡ q.packet.flow =
      All-head (λ q. q.packet.flow ≡ n) p ps own ∙ sym (All-tail (λ q. q.packet.flow ≡ n) p ps own k d short) in
      is_less-within p.packet.flow p.packet.begun p.packet.number q.packet.flow q.packet.begun q.packet.number same (rises.0 k d short)),
  ascends-begun n ps (All-tail (λ q. q.packet.flow ≡ n) p ps own) rises.1,
)

all_own : (n : ℕ) (ps : List Passage) → All (λ p. p.packet.flow ≡ n) (filter (is_of n) ps)
all_own n ps = All-weaker (λ p. is_of n p ≡ true) (λ p. p.packet.flow ≡ n) (λ p own. is p.packet.flow own) (filter (is_of n) ps) (filter_passes (is_of n) ps)
  where
    is : (f : ℕ) → nat_eq f n ≡ true → f ≡ n
    is f own = grind (arith, nat_tests)

standing-ascends : (g : Ground) (run : Run) → IsRun g run → Ascends stands_before (by_contract run.passages)
standing-ascends g run is_run =
    in_order-ascends stands_before standing_order run.passages
    (λ i j d below short. either_stands (get_or run.passages i d) (get_or run.passages j d) (is_run.numbers i j d below short))

abbrev counted : Column → Contract → Passage → Bool
counted column c p = was_sent_as (counts column) (sending_of c p)

-- those of a contract that a column counts, as they stand, are those as they were sent
sent-standing : (g : Ground) (run : Run) → IsRun g run → (n : ℕ) (c : Contract) (column : Column)
    → filter (counted column c) (filter (is_of n) (by_contract run.passages)) ≡ sent_in column c (passages_of n run)
sent-standing g run is_run n c column =
    let picked = counted column c in
    let standing = by_contract run.passages in
    let moved = in_order-permutes stands_before run.passages in
    in_order-is is_begun_before begun_order (filter picked (passages_of n run)) (filter picked (filter (is_of n) standing))
    (AllPairs-filter (AreApart is_begun_before) picked (passages_of n run)
    (AllPairs-filter (AreApart is_begun_before) (is_of n) run.passages
    (λ i j d below short. either_begun (get_or run.passages i d) (get_or run.passages j d) (is_run.numbers i j d below short))))
    (Ascends-filter is_begun_before picked (filter (is_of n) standing)
    (ascends-begun n (filter (is_of n) standing) (all_own n standing) (Ascends-filter stands_before (is_of n) standing (standing-ascends g run is_run))))
    (HasAllOf-filter picked (filter (is_of n) standing) (passages_of n run)
    (HasAllOf-filter (is_of n) standing run.passages (λ z there. Contains-permutation run.passages standing z moved there)))
    (HasAllOf-filter picked (passages_of n run) (filter (is_of n) standing)
    (HasAllOf-filter (is_of n) run.passages standing (λ z there. Contains-permutation standing run.passages z (IsPermutation-sym run.passages standing moved) there)))

-- ---- a bucket into which they are poured one after another

pub overflow-next : (rate burst level since index next : ℕ) (items : List (ℕ × ℕ)) → next ≡ suc index
    → overflow_from rate burst level since next items ≡ option_map (λ i. suc i) (overflow_from rate burst level since index items)
unfolding overflow_from
overflow-next rate burst level since index next [] is = refl
overflow-next rate burst level since index next (item ∷ items) is =
    let full = filled rate level since item in
    by_test (nat_lt (8000000000 * burst) full) _ _ (overflow-next rate burst full item.0 (index + 1) (next + 1) items (omega (arith, is)))
  where
    by_test : (b : Bool) (behind further : Option ℕ) → further ≡ option_map (λ i. suc i) behind
        → (if b then Some next else further) ≡ option_map (λ i. suc i) (if b then Some index else behind)
    by_test true behind further same = ap Some is
    by_test false behind further same = same

pub found-next : {A : Type 0} (x : A) (xs : List A) (at : Option ℕ) → option_and_then (slice_get (x ∷ xs)) (option_map (λ i. suc i) at) ≡ option_and_then (slice_get xs) at
found-next x xs None = refl
found-next x xs (Some i) = refl

pub counts-sent : (picked : Colour → Bool) (terms : Terms) (colour : Colour) (begun : ℕ) (receipts : List Receipt) → IsTrusted terms
    → picked colour ≡ was_sent_as picked (sending_by terms colour begun receipts)
counts-sent picked (Trusted committed peak) colour begun receipts trusted = refl
counts-sent picked (Policed parameters mode) colour begun receipts trusted = absurd trusted

-- what spills of a list is what the bucket finds over those that the column counts
abbrev SpillIs : Curve → Column → Contract → ℕ → ℕ → List Passage → Type 0
SpillIs curve column c level since ps =
    spilled curve column c level since ps
    ≡ option_and_then (slice_get (filter (counted column c) ps)) (overflow_from curve.rate curve.burst level since 0 (map item_of (filter (counted column c) ps)))

spilled-is : (curve : Curve) (column : Column) (c : Contract) → IsTrusted c.terms → (level since : ℕ) (ps : List Passage) → SpillIs curve column c level since ps
unfolding spilled overflow_from
spilled-is curve column c trusted level since [] = refl
spilled-is curve column c trusted level since (p ∷ ps) =
    let full = poured curve level since p in
    ap
    (λ b.
    if b then
    (if nat_lt (8000000000 * curve.burst) full then Some p else spilled curve column c full p.packet.begun ps)
    else
    spilled curve column c level since ps)
    (counts-sent (counts column) c.terms (came c p.packet.dscp) p.packet.begun p.receipts trusted)
    ∙ by_test (counted column c p) (filter (counted column c) ps) (spilled-is curve column c trusted full p.packet.begun ps) (spilled-is curve column c trusted level since ps)
  where
    by_over : (b : Bool) (full : ℕ) (kept : List Passage) (behind : Option Passage)
        → behind ≡ option_and_then (slice_get kept) (overflow_from curve.rate curve.burst full p.packet.begun 0 (map item_of kept))
        → (if b then Some p else behind)
        ≡ option_and_then (slice_get (p ∷ kept)) (if b then Some 0 else overflow_from curve.rate curve.burst full p.packet.begun (0 + 1) (map item_of kept))
    by_over true full kept behind is = refl
    by_over false full kept behind is =
        is
        ∙ sym (found-next p kept (overflow_from curve.rate curve.burst full p.packet.begun 0 (map item_of kept)))
        ∙ ap (option_and_then (slice_get (p ∷ kept))) (sym (overflow-next curve.rate curve.burst full p.packet.begun 0 (0 + 1) (map item_of kept) (omega arith)))

    by_test : (b : Bool) (kept : List Passage)
        → spilled curve column c (poured curve level since p) p.packet.begun ps ≡ option_and_then (slice_get kept) (overflow_from curve.rate curve.burst (poured curve level since p) p.packet.begun 0 (map item_of kept))
        → spilled curve column c level since ps ≡ option_and_then (slice_get kept) (overflow_from curve.rate curve.burst level since 0 (map item_of kept))
        → (if b then
        (if nat_lt (8000000000 * curve.burst) (poured curve level since p) then Some p else spilled curve column c (poured curve level since p) p.packet.begun ps)
        else
        spilled curve column c level since ps)
        ≡ option_and_then (slice_get (cond b (p ∷ kept) kept)) (overflow_from curve.rate curve.burst level since 0 (map item_of (cond b (p ∷ kept) kept)))
    by_test true kept further passed = by_over (nat_lt (8000000000 * curve.burst) (poured curve level since p)) (poured curve level since p) kept (spilled curve column c (poured curve level since p) p.packet.begun ps) further
    by_test false kept further passed = passed

-- ---- contract by contract

shown-same : {A B : Type 0} (f g : A → B) (xs : List A) (at : Option ℕ) → All (λ x. f x ≡ g x) xs → option_map f (option_and_then (slice_get xs) at) ≡ option_map g (option_and_then (slice_get xs) at)
shown-same f g xs None same = refl
shown-same f g [] (Some i) same = refl
shown-same f g (x ∷ xs) (Some zero) same = ap Some (All-head (λ y. f y ≡ g y) x xs same)
shown-same f g (x ∷ xs) (Some (suc i)) same = shown-same f g xs (Some i) (All-tail (λ y. f y ≡ g y) x xs same)

in-standing : (g : Ground) (run : Run) → IsRun g run → (n : ℕ) (c : Contract) (column : Column) → IsTrusted c.terms
    → spilled_in (source_of g.domain c) c (filter (is_of n) (by_contract run.passages)) column ≡ over_in g run n c column
in-standing g run is_run n c column trusted =
    let curve = envelope_in column (source_of g.domain c) in
    let own = filter (is_of n) (by_contract run.passages) in
    let sent = sent_in column c (passages_of n run) in
    let same : filter (counted column c) own ≡ sent = sent-standing g run is_run n c column in
    let spills : spilled curve column c 0 0 own ≡ overflowing curve column c sent =
    spilled-is curve column c trusted 0 0 own
    ∙ ap (λ ps. option_and_then (slice_get ps) (overflow_of curve.rate curve.burst (map item_of ps))) same
    ∙ ap (λ items. option_and_then (slice_get sent) (overflow_of curve.rate curve.burst items)) (sym (items_sent column c (passages_of n run) trusted)) in
    let flows : All (λ p. p.packet.flow ≡ n) sent =
    subst (λ ps. All (λ p. p.packet.flow ≡ n) ps) same (All-filter (counted column c) (λ p. p.packet.flow ≡ n) own (all_own n (by_contract run.passages))) in
    ap (option_map (λ p. SourceOver p.packet.flow column p.packet.number)) spills
    ∙ shown-same (λ p. SourceOver p.packet.flow column p.packet.number) (λ p. SourceOver n column p.packet.number) sent
    (overflow_of curve.rate curve.burst (sent_items (counts column) c sent))
    (All-weaker (λ p. p.packet.flow ≡ n) (λ p. SourceOver p.packet.flow column p.packet.number ≡ SourceOver n column p.packet.number)
    (λ p is. ap (λ f. SourceOver f column p.packet.number) is) sent flows)

-- what two tests that find the same find along a list
found_same : {A B : Type 0} (find other : A → Option B) → ((x : A) → find x ≡ other x) → (xs : List A) → first_found find xs ≡ first_found other xs
unfolding first_found
found_same find other same [] = refl
found_same find other same (x ∷ xs) = ap (λ here. first_of here (first_found find xs)) (same x) ∙ ap (first_of (other x)) (found_same find other same xs)

by-standing : (g : Ground) (run : Run) → IsRun g run → (n : ℕ) (c : Contract) (terms : Terms) → c.terms ≡ terms
    → spilled_by terms g.domain c (filter (is_of n) (by_contract run.passages)) ≡ over_by terms g run n c
by-standing g run is_run n c (Trusted committed peak) is =
    found_same (spilled_in (source_of g.domain c) c (filter (is_of n) (by_contract run.passages))) (over_in g run n c)
    (λ column. in-standing g run is_run n c column (subst IsTrusted (sym is) tt)) each_column
by-standing g run is_run n c (Policed parameters mode) is = refl

from-standing : (g : Ground) (run : Run) → IsRun g run → (n : ℕ) (cs : List Contract)
    → ((place : ℕ) (c : Contract) → slice_get cs place ≡ Some c → contract_of g (n + place) ≡ Some c)
    → spilled_from g.domain n cs (filter (is_from n) (by_contract run.passages)) ≡ first_found (over_at g run) (keys_of (enumerate_from n cs))
unfolding spilled_from first_found
from-standing g run is_run n [] known = refl
from-standing g run is_run n (c ∷ cs) known =
    let standing = by_contract run.passages in
    let left = filter (is_from n) standing in
    let parts = split n standing (standing-ascends g run is_run) in
    let next : suc n ≡ n + 1 = omega arith in
    let first : n + 0 ≡ n = omega arith in
    let own : over_at g run n ≡ over_by c.terms g run n c =
    ap (option_and_then (λ x. over_by x.terms g run n x)) (ap (contract_of g) (sym first) ∙ known 0 c refl) in
    ap (λ ps. first_of (spilled_by c.terms g.domain c ps) (spilled_from g.domain (n + 1) cs (drop (own_length n left) left))) parts.0
    ∙ ap (λ ps. first_of (spilled_by c.terms g.domain c (filter (is_of n) standing)) (spilled_from g.domain (n + 1) cs ps)) parts.1
    ∙ ap (λ m. first_of (spilled_by c.terms g.domain c (filter (is_of n) standing)) (spilled_from g.domain (n + 1) cs (filter (is_from m) standing))) next
    ∙ ap (λ here. first_of here (spilled_from g.domain (n + 1) cs (filter (is_from (n + 1)) standing))) (by-standing g run is_run n c c.terms refl ∙ sym own)
    ∙ ap (first_of (over_at g run n)) (from-standing g run is_run (n + 1) cs
    (λ place x found. ap (contract_of g) (onward place) ∙ known (suc place) x found))
  where
    onward : (place : ℕ) → n + 1 + place ≡ n + suc place
    onward place = omega arith

pub source_of-standing : (g : Ground) (run : Run) → IsCounted g → IsRun g run
    → spilled_from g.domain 0 (values_of g.contracts) (by_contract run.passages) ≡ source_of_run g run
source_of-standing g run counted is_run =
    let standing = by_contract run.passages in
    let contracts = values_of g.contracts in
    ap (spilled_from g.domain 0 contracts) (sym (filter_all (is_from 0) standing (λ k d short. from_first (get_or standing k d).packet.flow)))
    ∙ from-standing g run is_run 0 contracts (λ place c found. ap (contract_of g) (start place) ∙ counted_at g place counted ∙ found)
    ∙ ap (λ entries. first_found (over_at g run) (keys_of entries)) (sym counted)
  where
    from_first : (f : ℕ) → nat_le 0 f ≡ true
    from_first f = grind (arith, nat_tests)

    start : (place : ℕ) → 0 + place ≡ place
    start place = omega arith
