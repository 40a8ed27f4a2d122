-- No bucket of a trusted source overflows exactly where the sources keep their envelopes.
use Rattle.std.proofs.Common.{◌≡◌, ℕ, zero, suc, ◌<◌, ◌≤◌, ◌↔◌, Bool, true, false, cond, List, [], ◌∷◌, ◌++◌, map, length, get_or, Option, None, Some, refl, sym, ap, subst, ◌∙◌, arith}
use Rattle.std.specs.Prelude.{⊤, Contains, IsSome, nat_eq, nat_lt, ◌&&◌, ◌||◌, slice_get, option_and_then, option_map, if◌then◌else◌}
use Rattle.std.specs.List.{All, AllByRecursion, filter, find, flat_map, sum_by}
use Rattle.std.specs.Map.{keys_of}
use Rattle.std.specs.Option.{ForSome}
use Rattle.std.specs.List.Sorted.{IsNonDecreasingBy}
use Rattle.std.proofs.lemmas.Bool.{false≢true}
use Rattle.std.proofs.lemmas.Bool.Decides.{nat_tests}
use Rattle.std.proofs.lemmas.List.{get_or-map, length-map}
use Rattle.std.proofs.lemmas.List.Elements.{All-cons, All-head, All-tail, All-weaker, filter_passes}
use Rattle.std.proofs.lemmas.List.Sorted.{All-permutation, sum_by-IsPermutation}
use Rattle.std.proofs.lemmas.Option.{none-some}
use Rattle.moment_core.specs.declared.colour.Colour.{Colour}
use Rattle.moment_core.specs.Conformance.{Keeps, size_within}
use Rattle.moment_core.specs.Columns.{counts, each_column}
use Rattle.moment_core.specs.declared.column.Column.{Column}
use Rattle.envelope_core.specs.Curve.{Curve, KeepsCurve}
use Rattle.envelope_core.specs.LeakyBucket.{overflow_of}
use Rattle.envelope_core.specs.Order.{IsInOrder}
use Rattle.envelope_core.proofs.LeakyBuckets.{buckets_tell_all}
use Rattle.envelope_core.proofs.Windows.{sum_by-filter, sum_by-flat_map, sum_by-mono}
use Rattle.ds_domain_base.specs.declared.contract.Contract.{Contract}
use Rattle.ds_domain_base.specs.declared.terms.Terms.{Terms}
use Rattle.ds_domain_base.specs.declared.terms.Terms.TheVariants.{Trusted, Policed}
use Rattle.ds_certificate.specs.Columns.{envelope_in}
use Rattle.ds_certificate.specs.Sources.{source_of}
use Rattle.meter_fabric_base.specs.Grounds.{Ground, contract_of}
use Rattle.meter_fabric_base.specs.declared.trail.Receipt.{Receipt}
use Rattle.run_audit.specs.Premises.{IsTrusted, KeepsIn, KeepsSource, KeepsSources}
use Rattle.run_audit.specs.Runs.{Passage, Run}
use Rattle.run_audit.specs.Sendings.{Sending, passages_of, sending_by, sending_of, sent_item, sent_items}
use Rattle.meter_fabric_base.specs.Orders.{in_order, placed}
use Rattle.run_audit.specs.Verdicts.{first_found, is_begun_before, over_by, over_in, overflowing, sent_in, source_of_run, over_at, was_sent_as}
use Rattle.run_audit.specs.declared.verdict.Verdict.TheVariants.{SourceOver}
use Rattle.run_audit.proofs.FoundLaws.{is_there}
use Rattle.meter_fabric_base.proofs.OrderLaws.{in_order-permutes}
use Rattle.run_audit.proofs.PremiseFoundLaws.{IsOf, and_then-gives, and_then-none, first_found-gives, first_of-none, iff_trans, map-gives, map-none, none_along, premise_of}

-- ---- a list in an order that follows a key does not fall in that key

-- what stands before another has no greater key, and what does not, no smaller one
abbrev Follows : {A : Type 0} → (A → ℕ) → (A → A → Bool) → Type 0
Follows {A} key before = (x y : A) → (before x y ≡ true → key x ≤ key y) × (before x y ≡ false → key y ≤ key x)

-- none has a greater key than one behind it
unfoldable Climbs : {A : Type 0} → (A → ℕ) → List A → Type 0
Climbs key [] = ⊤
Climbs key (x ∷ xs) = All (λ y. key x ≤ key y) xs × Climbs key xs

All-placed : {A : Type 0} (P : A → Type 0) (before : A → A → Bool) (x : A) (ys : List A) → P x → All P ys → All P (placed before x ys)
unfolding placed
All-placed P before x [] here all = All-cons P x [] here all
All-placed {A} P before x (y ∷ ys) here all = by_test (before y x) (All-placed P before x ys here (All-tail P y ys all))
  where
    by_test : (b : Bool) → All P (placed before x ys) → All P (if b then y ∷ placed before x ys else x ∷ y ∷ ys)
    by_test true further = All-cons P y (placed before x ys) (All-head P y ys all) further
    by_test false further = All-cons P x (y ∷ ys) here all

placed-climbs : {A : Type 0} (key : A → ℕ) (before : A → A → Bool) → Follows key before → (x : A) (ys : List A) → Climbs key ys → Climbs key (placed before x ys)
unfolding placed Climbs
placed-climbs key before follows x [] climbs = ((λ k d short. absurd (omega (arith, short))), tt)
placed-climbs {A} key before follows x (y ∷ ys) climbs = by_test (before y x) refl (placed-climbs key before follows x ys climbs.1)
  where
    by_test : (b : Bool) → before y x ≡ b → Climbs key (placed before x ys) → Climbs key (if b then y ∷ placed before x ys else x ∷ y ∷ ys)
    by_test true ahead further = (All-placed (λ z. key y ≤ key z) before x ys ((follows y x).0 ahead) climbs.0, further)
    by_test false behind further =
        let least = (follows y x).1 behind in
        (All-cons (λ z. key x ≤ key z) y ys least (λ k d short. omega (arith, least, climbs.0 k d short)), climbs)

in_order-climbs : {A : Type 0} (key : A → ℕ) (before : A → A → Bool) → Follows key before → (xs : List A) → Climbs key (in_order before xs)
unfolding in_order Climbs
in_order-climbs key before follows [] = tt
in_order-climbs key before follows (x ∷ xs) = placed-climbs key before follows x (in_order before xs) (in_order-climbs key before follows xs)

climbs_sorted : {A : Type 0} (key : A → ℕ) (xs : List A) → Climbs key xs → IsNonDecreasingBy key xs
unfolding Climbs
climbs_sorted key [] climbs i j d below short = absurd (omega (arith, short))
climbs_sorted key (x ∷ xs) climbs zero zero d below short = omega arith
climbs_sorted key (x ∷ xs) climbs zero (suc j) d below short = climbs.0 j d (omega (arith, short))
climbs_sorted key (x ∷ xs) climbs (suc i) zero d below short = absurd (omega (arith, below))
climbs_sorted key (x ∷ xs) climbs (suc i) (suc j) d below short = climbs_sorted key xs climbs.1 i j d (omega (arith, below)) (omega (arith, short))

sorted-map : {A B : Type 0} (key : B → ℕ) (show : A → B) (xs : List A) → IsNonDecreasingBy (λ x. key (show x)) xs → IsNonDecreasingBy key (map show xs)
sorted-map key show [] rises i j d below short = absurd (omega (arith, short))
sorted-map key show (x ∷ xs) rises i j d below short =
    let fits : j < length (x ∷ xs) = omega (arith, short, length-map (x ∷ xs) show) in
    let at_i = ap key (get_or-map show (x ∷ xs) i x d (omega (arith, below, fits))) in
    let at_j = ap key (get_or-map show (x ∷ xs) j x d fits) in
    omega (arith, rises i j x below fits, at_i, at_j)

begun_follows : Follows (λ p. p.packet.begun) is_begun_before
begun_follows p q = (first p.packet.begun q.packet.begun p.packet.number q.packet.number, last p.packet.begun q.packet.begun p.packet.number q.packet.number)
  where
    first : (a b m n : ℕ) → (nat_lt a b || nat_eq a b && nat_lt m n) ≡ true → a ≤ b
    first a b m n passed = grind (arith, nat_tests)

    last : (a b m n : ℕ) → (nat_lt a b || nat_eq a b && nat_lt m n) ≡ false → b ≤ a
    last a b m n failed = grind (arith, nat_tests)

-- ---- the packets of a trusted contract as they were sent

abbrev pub item_of : Passage → ℕ × ℕ
item_of p = (p.packet.begun, p.packet.size)

flat_map-ones : {A B : Type 0} (f : A → List B) (g : A → B) (xs : List A) → All (λ x. f x ≡ g x ∷ []) xs → flat_map f xs ≡ map g xs
flat_map-ones f g [] all = refl
flat_map-ones f g (x ∷ xs) all =
    ap (λ ys. ys ++ flat_map f xs) (All-head (λ y. f y ≡ g y ∷ []) x xs all)
    ∙ ap (λ ys. g x ∷ ys) (flat_map-ones f g xs (All-tail (λ y. f y ≡ g y ∷ []) x xs all))

one_item : (picked : Colour → Bool) (terms : Terms) (colour : Colour) (begun size : ℕ) (receipts : List Receipt) → IsTrusted terms
    → was_sent_as picked (sending_by terms colour begun receipts) ≡ true → sent_item picked size (sending_by terms colour begun receipts) ≡ (begun, size) ∷ []
one_item picked (Trusted committed peak) colour begun size receipts trusted sent = rw sent refl
one_item picked (Policed parameters mode) colour begun size receipts trusted sent = absurd trusted

-- what a column counts of packets
abbrev pub AreCounted : Column → Contract → List Passage → Type 0
AreCounted column c = All (λ p. was_sent_as (counts column) (sending_of c p) ≡ true)

-- each packet that a column counts brings one item, at the moment at which it begins
pub items_counted : (column : Column) (c : Contract) (ps : List Passage) → IsTrusted c.terms → AreCounted column c ps → sent_items (counts column) c ps ≡ map item_of ps
items_counted column c ps trusted counted =
    flat_map-ones (λ p. sent_item (counts column) p.packet.size (sending_of c p)) item_of ps
    (All-weaker (λ p. was_sent_as (counts column) (sending_of c p) ≡ true) (λ p. sent_item (counts column) p.packet.size (sending_of c p) ≡ item_of p ∷ [])
    (λ p sent. one_item (counts column) c.terms _ p.packet.begun p.packet.size p.receipts trusted sent) ps counted)

pub sent_counted : (column : Column) (c : Contract) (ps : List Passage) → AreCounted column c (sent_in column c ps)
sent_counted column c ps =
    let counted = λ (p : Passage). was_sent_as (counts column) (sending_of c p) in
    All-permutation (λ p. counted p ≡ true) (filter counted ps) (sent_in column c ps) (in_order-permutes is_begun_before (filter counted ps)) (filter_passes counted ps)

pub items_sent : (column : Column) (c : Contract) (ps : List Passage) → IsTrusted c.terms → sent_items (counts column) c (sent_in column c ps) ≡ map item_of (sent_in column c ps)
items_sent column c ps trusted = items_counted column c (sent_in column c ps) trusted (sent_counted column c ps)

pub items_sorted : (column : Column) (c : Contract) (ps : List Passage) → IsTrusted c.terms → IsInOrder (sent_items (counts column) c (sent_in column c ps))
items_sorted column c ps trusted =
    subst IsInOrder (sym (items_sent column c ps trusted))
    (sorted-map (λ (item : ℕ × ℕ). item.0) item_of (sent_in column c ps)
    (climbs_sorted (λ p. p.packet.begun) (sent_in column c ps)
    (in_order-climbs (λ p. p.packet.begun) is_begun_before begun_follows (filter (λ p. was_sent_as (counts column) (sending_of c p)) ps))))

-- ---- they weigh what all packets of the contract weigh

sum_by-same : {A : Type 0} (f g : A → ℕ) (xs : List A) → ((x : A) → f x ≡ g x) → sum_by f xs ≡ sum_by g xs
sum_by-same f g xs same =
    omega (arith, sum_by-mono f g xs (λ k d short. omega (arith, same (get_or xs k d))), sum_by-mono g f xs (λ k d short. omega (arith, same (get_or xs k d))))

weigh_sent : (f : ℕ × ℕ → ℕ) (picked : Colour → Bool) (size : ℕ) (sending : Option Sending)
    → cond (was_sent_as picked sending) (sum_by f (sent_item picked size sending)) 0 ≡ sum_by f (sent_item picked size sending)
weigh_sent f picked size None = refl
weigh_sent f picked size (Some s) = by_test (picked s.colour)
  where
    by_test : (b : Bool) → cond b (sum_by f (if b then (s.moment, size) ∷ [] else [])) 0 ≡ sum_by f (if b then (s.moment, size) ∷ [] else [])
    by_test true = refl
    by_test false = refl

same_weight : (f : ℕ × ℕ → ℕ) (column : Column) (c : Contract) (ps : List Passage)
    → sum_by f (sent_items (counts column) c (sent_in column c ps)) ≡ sum_by f (sent_items (counts column) c ps)
same_weight f column c ps =
    let counted = λ (p : Passage). was_sent_as (counts column) (sending_of c p) in
    let items = λ (p : Passage). sent_item (counts column) p.packet.size (sending_of c p) in
    let weight = λ (p : Passage). sum_by f (items p) in
    sum_by-flat_map f items (sent_in column c ps)
    ∙ sum_by-IsPermutation weight (filter counted ps) (sent_in column c ps) (in_order-permutes is_begun_before (filter counted ps))
    ∙ sum_by-filter weight counted ps
    ∙ sum_by-same (λ p. cond (counted p) (weight p) 0) weight ps (λ p. weigh_sent f (counts column) p.packet.size (sending_of c p))
    ∙ sym (sum_by-flat_map f items ps)

Keeps-weight : (rate burst : ℕ) (items others : List (ℕ × ℕ)) → ((f : ℕ × ℕ → ℕ) → sum_by f items ≡ sum_by f others) → Keeps rate burst items ↔ Keeps rate burst others
Keeps-weight rate burst items others same = (
  λ kept start end ordered. omega (arith, kept start end ordered, same (size_within start end)),
  λ kept start end ordered. omega (arith, kept start end ordered, same (size_within start end)),
)

-- ---- buckets that do not overflow

something : {A : Type 0} (got : Option A) → IsSome got → ¬ (got ≡ None)
something None some e = false≢true some
something (Some x) some e = absurd cc

there-none : {A : Type 0} (xs : List A) (o : Option ℕ) → ((i : ℕ) → o ≡ Some i → i < length xs) → (option_and_then (slice_get xs) o ≡ None) ↔ (o ≡ None)
there-none xs None short = (λ e. refl, λ e. refl)
there-none xs (Some i) short = (λ e. absurd (something (slice_get xs i) (is_there (slice_get xs i) xs i (short i refl) refl) e), λ e. absurd cc)

bucket_tells : {A : Type 0} (rate burst : ℕ) (items : List (ℕ × ℕ)) (xs : List A) → IsInOrder items → length items ≡ length xs
    → (option_and_then (slice_get xs) (overflow_of rate burst items) ≡ None) ↔ Keeps rate burst items
bucket_tells rate burst items xs ordered long =
    let tells = buckets_tell_all rate burst items ordered in
    iff_trans (there-none xs (overflow_of rate burst items) (λ i e. omega (arith, (tells.1 i e).0, long))) tells.0

column_tells : (curve : Curve) (column : Column) (c : Contract) (ps : List Passage) → IsTrusted c.terms
    → (overflowing curve column c (sent_in column c ps) ≡ None) ↔ KeepsCurve curve (sent_items (counts column) c ps)
column_tells curve column c ps trusted =
    let sent = sent_in column c ps in
    let items = sent_items (counts column) c sent in
    iff_trans
    (bucket_tells curve.rate curve.burst items sent (items_sorted column c ps trusted) (ap length (items_sent column c ps trusted) ∙ length-map sent item_of))
    (Keeps-weight curve.rate curve.burst items (sent_items (counts column) c ps) (λ f. same_weight f column c ps))

-- ---- contracts

pub in_tells : (g : Ground) (run : Run) (flow : ℕ) (c : Contract) (column : Column) → IsTrusted c.terms
    → (over_in g run flow c column ≡ None) ↔ KeepsIn g c (passages_of flow run) column
in_tells g run flow c column trusted =
    let curve = envelope_in column (source_of g.domain c) in
    iff_trans (map-none (λ p. SourceOver flow column p.packet.number) (overflowing curve column c (sent_in column c (passages_of flow run))))
    (column_tells curve column c (passages_of flow run) trusted)

none_in_each : {A B : Type 0} (find : A → Option B) (P : A → Type 0) → ((x : A) → (find x ≡ None) ↔ P x) → (xs : List A)
    → (first_found find xs ≡ None) ↔ AllByRecursion P xs
unfolding first_found
none_in_each find P tells [] = (λ e. tt, λ all. refl)
none_in_each find P tells (x ∷ xs) =
    let here = first_of-none (find x) (first_found find xs) in
    let later = none_in_each find P tells xs in
    (λ e. ((tells x).0 (here.0 e).0, later.0 (here.0 e).1), λ all. here.1 ((tells x).1 all.0, later.1 all.1))

by_tells : (g : Ground) (run : Run) (flow : ℕ) (c : Contract) (terms : Terms) → c.terms ≡ terms
    → (over_by terms g run flow c ≡ None) ↔ (IsTrusted terms → KeepsSource g run flow c)
by_tells g run flow c (Trusted committed peak) is =
    let tells = none_in_each (over_in g run flow c) (KeepsIn g c (passages_of flow run))
    (λ column. in_tells g run flow c column (subst IsTrusted (sym is) tt)) each_column in
    (λ e so. tells.0 e, λ kept. tells.1 (kept tt))
by_tells g run flow c (Policed parameters mode) is = (λ e trusted. absurd trusted, λ kept. refl)

-- a contract that is found stands among the flows
listed : (contracts : List (ℕ × Contract)) (flow : ℕ) (c : Contract) → option_map (λ e. e.1) (find (λ e. nat_eq e.0 flow) contracts) ≡ Some c
    → Contains (keys_of contracts) flow
listed [] flow c is = absurd (none-some c is)
listed (e ∷ contracts) flow c is = by_test (nat_eq e.0 flow) refl (listed contracts flow c)
  where
    by_test : (b : Bool) → nat_eq e.0 flow ≡ b
        → (option_map (λ x. x.1) (find (λ x. nat_eq x.0 flow) contracts) ≡ Some c → Contains (keys_of contracts) flow)
        → Contains (e.0 ∷ keys_of contracts) flow
    by_test true here behind = let same : e.0 ≡ flow = grind (arith, nat_tests) in (0, omega arith, same)
    by_test false other behind =
        let (place, short, at) = behind (rw other at is) in
        (suc place, omega (arith, short), at)

-- what is asked of a flow: that its contract keeps its source, where it is trusted
abbrev pub KeepsTrusted : Ground → Run → ℕ → Type 0
KeepsTrusted g run flow = ForSome (contract_of g flow) (λ c. IsTrusted c.terms → KeepsSource g run flow c)

pub at_tells : (g : Ground) (run : Run) (flow : ℕ) → (over_at g run flow ≡ None) ↔ KeepsTrusted g run flow
at_tells g run flow =
    and_then-none (λ c. over_by c.terms g run flow c) (λ c. IsTrusted c.terms → KeepsSource g run flow c) (contract_of g flow)
    (λ c. by_tells g run flow c c.terms refl)

pub source_tells : (g : Ground) (run : Run) → (source_of_run g run ≡ None) ↔ KeepsSources g run
source_tells g run =
    let tells = none_along (over_at g run) (KeepsTrusted g run) (keys_of g.contracts) (at_tells g run) in (
      λ e flow c is.
          let (place, short, at) = listed g.contracts flow c is in
          subst (KeepsTrusted g run) at (tells.0 e place flow short) c is,
      λ keeps. tells.1 (λ place flow short c is. keeps (get_or (keys_of g.contracts) place flow) c is),
    )

-- ---- what is found is of the sources

by-gives : (g : Ground) (run : Run) (flow : ℕ) (c : Contract) (terms : Terms) → IsOf 2 (over_by terms g run flow c)
by-gives g run flow c (Trusted committed peak) =
    first_found-gives (λ v. premise_of v ≡ 2) (over_in g run flow c) each_column in-gives
  where
    in-gives : (column : Column) → IsOf 2 (over_in g run flow c column)
    in-gives column =
        map-gives (λ v. premise_of v ≡ 2) (λ p. SourceOver flow column p.packet.number)
        (overflowing (envelope_in column (source_of g.domain c)) column c (sent_in column c (passages_of flow run))) (λ p. refl)
by-gives g run flow c (Policed parameters mode) = λ v e. absurd cc

pub source-gives : (g : Ground) (run : Run) → IsOf 2 (source_of_run g run)
source-gives g run =
    first_found-gives (λ v. premise_of v ≡ 2) (over_at g run) (keys_of g.contracts)
    (λ flow. and_then-gives (λ v. premise_of v ≡ 2) (λ c. over_by c.terms g run flow c) (contract_of g flow) (λ c. by-gives g run flow c c.terms))
