-- Rules by the bits of addresses for which they ask: rows in order, a run of rows, tuples, and the first rule that holds.
use Rattle.std.proofs.Common.{◌≡◌, ◌⊎◌, inl, inr, ◌<◌, ◌≤◌, ◌+◌, ◌-◌, ◌/◌, ◌%◌, ◌^◌, ℕ, zero, suc, nat_eq, Bool, true, false, ◌&&◌, cond, ltb, List, [], ◌∷◌, ◌++◌, length, length-drop, map, drop, take, get_or, option_map, Option, None, Some, refl, subst, sym, ap, ◌∙◌, arith}
use Rattle.std.specs.Prelude.{◌||◌, All, IfSome, slice_get, IsPermutation, ⊤, is_none, not}
use Rattle.std.specs.Cmp.{IsTotalOrder, IsStrictWeakOrder}
use Rattle.std.specs.List.{list_any}
use Rattle.std.specs.List.Sorted.{IsNonDecreasingBy, IsPartitionPoint, IsSorted}
use Rattle.std.specs.Ordering.{is_lt, nat_cmp, ordering_then}
use Rattle.std.proofs.Math.Nat.{div-eq_of_lt, div-le_self}
use Rattle.std.proofs.lemmas.Bool.{cases_lt}
use Rattle.std.proofs.lemmas.Bool.Decides.{nat_tests}
use Rattle.std.proofs.lemmas.Cmp.{nat_cmp_total, on_total, then_total}
use Rattle.std.proofs.lemmas.List.{drop_more, get_or-drop, get_or_default, get_or_read, map_push, take_more}
use Rattle.std.proofs.lemmas.List.Elements.{All-cons, All-nil, All-push, All-weaker}
use Rattle.std.proofs.lemmas.List.Sorted.{All-permutation, list_any-IsPermutation, ranks_by, sorted_far}
use Rattle.std.proofs.lemmas.Option.{MatchOption-at_some, get_or_from_slice_get, none-some, same_Some, slice_get-map, slice_get_within}
use Rattle.flow_classifier.specs.Families.{asks_ipv6, can_take_ipv4}
use Rattle.flow_classifier.specs.Matching.{addresses_hold, holds, holds_where_given, is_in_prefix, is_in_range, numbers_hold, ports_hold}
use Rattle.flow_classifier.specs.Keys.{are_ipv4, source_of, target_of}
use Rattle.flow_classifier.specs.Tables.{first_flow_of}
use Rattle.flow_classifier.specs.Tuples.{AreTuplesOf, AsksNoMore, IsAddress, IsDecided, IsHeldAt, IsNotHeldAt, IsTupleOf, addresses_of, addresses_under, as_one, bits_asked, last_bits, length_asked, lengths_of, row_at, row_cmp, rows_from, same_lengths}
use Rattle.flow_classifier.specs.declared.key.Address.{Address}
use Rattle.flow_classifier.specs.declared.key.Address.TheVariants as addresses
use Rattle.flow_classifier.specs.declared.key.Addresses.{Addresses}
use Rattle.flow_classifier.specs.declared.key.Addresses.TheVariants as pairs
use Rattle.flow_classifier.specs.declared.key.Key.{Key}
use Rattle.flow_classifier.specs.declared.prefix.Prefix.{Prefix}
use Rattle.flow_classifier.specs.declared.prefix.Prefix.TheVariants as prefixes
use Rattle.flow_classifier.specs.declared.rule.Rule.{Rule}
use Rattle.flow_classifier.specs.declared.table.FlowRule.{FlowRule}
use Rattle.flow_classifier.specs.declared.tuples.Lengths.{Lengths}
use Rattle.flow_classifier.specs.declared.tuples.Row.{Row}
use Rattle.flow_classifier.specs.declared.tuples.Tuple.{Tuple}

-- ---- lists

-- a test that an element passes
pub passed_at : {X : Type 0} (test : X → Bool) (xs : List X) → list_any test xs ≡ true
    → (k : ℕ) × ((k < length xs) × ((d : X) → test (get_or xs k d) ≡ true))
passed_at test [] none = absurd cc
passed_at {X} test (x ∷ xs) some = by (test x) refl (λ not_here. passed_at test xs (sym (ap (λ b. b || list_any test xs) not_here) ∙ some))
  where
    by : (b : Bool) → test x ≡ b → (test x ≡ false → (k : ℕ) × ((k < length xs) × ((d : X) → test (get_or xs k d) ≡ true)))
        → (k : ℕ) × ((k < length (x ∷ xs)) × ((d : X) → test (get_or (x ∷ xs) k d) ≡ true))
    by true here rest = (0, (omega arith, λ d. here))
    by false not_here rest = let later = rest not_here in (suc later.0, (omega (arith, later.1.0), later.1.1))

-- ---- rows in order

row_total : IsTotalOrder row_cmp
row_total = then_total (on_total (λ (r : Row). r.addresses) nat_cmp_total) (on_total (λ (r : Row). r.place) nat_cmp_total)

abbrev is_before : Row → Row → Bool
is_before r s = is_lt (row_cmp r s)

row_strict : IsStrictWeakOrder is_before
row_strict = ranks_by row_total (λ (r : Row). r)

-- a row asks for no greater addresses than another, and where for the same ones, it has no greater place
abbrev pub Precedes : Row → Row → Type 0
Precedes r s = (r.addresses ≤ s.addresses) × (r.addresses ≡ s.addresses → r.place ≤ s.place)

not_behind : (a p b q : ℕ) → is_lt (ordering_then (nat_cmp b a) (nat_cmp q p)) ≡ false → (a ≤ b) × (a ≡ b → p ≤ q)
not_behind a p b q last = (first a p b q last, next a p b q last)
  where
    first : (a p b q : ℕ) → is_lt (ordering_then (nat_cmp b a) (nat_cmp q p)) ≡ false → a ≤ b
    first a p b q last = grind (arith, nat_tests)

    next : (a p b q : ℕ) → is_lt (ordering_then (nat_cmp b a) (nat_cmp q p)) ≡ false → a ≡ b → p ≤ q
    next a p b q last same = grind (arith, nat_tests)

pub preceding : (rows : List Row) → IsSorted row_cmp rows → (i j : ℕ) (d : Row) → i ≤ j → j < length rows → Precedes (get_or rows i d) (get_or rows j d)
preceding rows up i j d order within =
    let r = get_or rows i d in
    let s = get_or rows j d in
    not_behind r.addresses r.place s.addresses s.place (sorted_far is_before row_strict rows up i j d order within)

pub rise : (rows : List Row) → IsSorted row_cmp rows → IsNonDecreasingBy (λ r. r.addresses) rows
rise rows up i j d order within = (preceding rows up i j d order within).0

pub sorted_rest : (rows : List Row) (count : ℕ) → IsSorted row_cmp rows → IsSorted row_cmp (drop count rows)
sorted_rest rows count up k d low within =
    let here = get_or-drop count rows k d in
    let next = get_or-drop count rows (k + 1) d ∙ ap (λ i. get_or rows i d) (let e : count + (k + 1) ≡ count + k + 1 = omega arith in e) in
    let there : count + k + 1 < length rows = omega (arith, within, length-drop count rows) in
    ap (λ (r : Row). is_before (get_or (drop count rows) (k + 1) d) r) here ∙ ap (λ (r : Row). is_before r (get_or rows (count + k) d)) next
    ∙ up (count + k) d (omega arith) there

-- where the rows begin that do not ask for smaller addresses
pub smaller_before : (rows : List Row) (addresses start : ℕ) → IsPartitionPoint (λ r. ltb r.addresses addresses ≡ true) (λ r. ltb r.addresses addresses ≡ false) rows start
    → (k : ℕ) (d : Row) → k < start → (get_or rows k d).addresses < addresses
smaller_before rows addresses start point k d before = below (get_or rows k d).addresses addresses (point.0 k d (omega arith) before)
  where
    below : (a b : ℕ) → ltb a b ≡ true → a < b
    below a b less = grind (arith, nat_tests)

pub none_smaller : (rows : List Row) (addresses start : ℕ) → IsPartitionPoint (λ r. ltb r.addresses addresses ≡ true) (λ r. ltb r.addresses addresses ≡ false) rows start
    → All (λ r. addresses ≤ r.addresses) (drop start rows)
none_smaller rows addresses start point k d within =
    rw (get_or-drop start rows k d) (above (get_or rows (start + k) d).addresses addresses (point.1 (start + k) d (omega arith) (omega (arith, within, length-drop start rows))))
  where
    above : (a b : ℕ) → ltb a b ≡ false → b ≤ a
    above a b more = grind (arith, nat_tests)

-- ---- a run of rows

-- the rules of the first rows do not hold
abbrev pub NoneSoFar : List Row → List FlowRule → Key → ℕ → Type 0
NoneSoFar run rules key count = (k : ℕ) (d : Row) → k < count → IsNotHeldAt rules key (get_or run k d).place

-- what a run is searched for: no rule of it that asks for these addresses and stands before a place holds
abbrev pub NoneOf : List Row → ℕ → List FlowRule → Key → ℕ → Type 0
NoneOf run addresses rules key place = All (λ r. r.addresses ≡ addresses → r.place < place → IsNotHeldAt rules key r.place) run

-- one row more
pub none_more : (run : List Row) (rules : List FlowRule) (key : Key) (count : ℕ) (e : Row) → count < length run → IsNotHeldAt rules key (get_or run count e).place
    → NoneSoFar run rules key count → NoneSoFar run rules key (count + 1)
none_more run rules key count e inside here before k d within = by (cases_lt k count)
  where
    by : (k < count) ⊎ (count ≤ k) → IsNotHeldAt rules key (get_or run k d).place
    by (inl first) = before k d first
    by (inr last) =
        let at : get_or run count e ≡ get_or run k d = get_or_default run count e d inside ∙ ap (λ i. get_or run i d) (let n : count ≡ k = omega (arith, last, within) in n) in
        subst (λ (r : Row). IsNotHeldAt rules key r.place) at here

-- where a row asks for other addresses, or stands no earlier than the place, so do those behind it
pub none_behind : (run : List Row) (addresses : ℕ) (rules : List FlowRule) (key : Key) (count place : ℕ) (e : Row) → count < length run
    → ((get_or run count e).addresses ≡ addresses → place ≤ (get_or run count e).place) → NoneSoFar run rules key count
    → IsSorted row_cmp run → All (λ r. addresses ≤ r.addresses) run → NoneOf run addresses rules key place
none_behind run addresses rules key count place e inside late before up above k d within asked early = by (cases_lt k count)
  where
    contradict : (a p b q n m : ℕ) → a ≤ b → (a ≡ b → p ≤ q) → n ≤ a → b ≡ n → q < m → (a ≡ n → m ≤ p) → ⊥
    contradict a p b q n m order ties least asked early late =
        let same : a ≡ b = omega (arith, order, least, asked) in
        let tie : p ≤ q = ties same in
        let first : m ≤ p = late (same ∙ asked) in
        omega (arith, tie, first, early)

    by : (k < count) ⊎ (count ≤ k) → IsNotHeldAt rules key (get_or run k d).place
    by (inl first) = before k d first
    by (inr last) =
        let row = get_or run count e in
        let at : row ≡ get_or run count d = get_or_default run count e d inside in
        let order : Precedes row (get_or run k d) = subst (λ (r : Row). Precedes r (get_or run k d)) (sym at) (preceding run up count k d last within) in
        absurd (contradict row.addresses row.place (get_or run k d).addresses (get_or run k d).place addresses place order.0 order.1 (above count e inside) asked early late)

-- ---- a tuple

same_test : (m n : Lengths) → same_lengths m n ≡ true → (m.source ≡ n.source) × (m.target ≡ n.target)
same_test m n same = (first m.source n.source m.target n.target same, second m.source n.source m.target n.target same)
  where
    first : (a b c d : ℕ) → (nat_eq a b && nat_eq c d) ≡ true → a ≡ b
    first a b c d same = grind (arith, nat_tests)

    second : (a b c d : ℕ) → (nat_eq a b && nat_eq c d) ≡ true → c ≡ d
    second a b c d same = grind (arith, nat_tests)

same_number : (a b : ℕ) → nat_eq a b ≡ true → a ≡ b
same_number a b same = grind (arith, nat_tests)

-- a number has nothing above its bits
nothing_above : (a k : ℕ) → a < 2 ^ k → a / 2 ^ k ≡ 0
nothing_above a k fits = div-eq_of_lt fits

-- an address that a prefix holds of has the bits that are asked for
bits_held : (prefix : Option Prefix) (address : Address) → IsAddress address → holds_where_given is_in_prefix prefix address ≡ true
    → last_bits (length_asked prefix) address ≡ bits_asked prefix
bits_held None (addresses.V4 a) fits holds = nothing_above a 32 fits
bits_held None (addresses.V6 a) fits holds = ap (λ n. n % 2 ^ 32) (nothing_above a 128 fits)
bits_held (Some (prefixes.V4 p)) (addresses.V4 a) fits holds = same_number (a / 2 ^ (32 - p.length)) (p.address / 2 ^ (32 - p.length)) holds
bits_held (Some (prefixes.V6 p)) (addresses.V6 a) fits holds =
    ap (λ n. n % 2 ^ 32) (same_number (a / 2 ^ (128 - p.length)) (p.address / 2 ^ (128 - p.length)) holds)
bits_held (Some (prefixes.V4 p)) (addresses.V6 a) fits holds = absurd cc
bits_held (Some (prefixes.V6 p)) (addresses.V4 a) fits holds = absurd cc

-- a packet of which a rule holds has what the rule asks for
asked_of : (rule : Rule) (key : Key) (lengths : Lengths) → IsAddress (source_of key.addresses) → IsAddress (target_of key.addresses) → same_lengths (lengths_of rule) lengths ≡ true
    → holds rule key ≡ true → addresses_of rule ≡ addresses_under lengths key
asked_of rule key lengths source target same here =
    let long = same_test (lengths_of rule) lengths same in
    let from = source_of key.addresses in
    let to = target_of key.addresses in
    let both = parts (holds_where_given is_in_prefix rule.source from) (holds_where_given is_in_prefix rule.target to) (ports_hold rule key && numbers_hold rule key) here in
    let first : bits_asked rule.source ≡ last_bits lengths.source from = sym (bits_held rule.source from source both.0) ∙ ap (λ n. last_bits n from) long.0 in
    let second : bits_asked rule.target ≡ last_bits lengths.target to = sym (bits_held rule.target to target both.1) ∙ ap (λ n. last_bits n to) long.1 in
    ap (λ a. as_one a (bits_asked rule.target)) first ∙ ap (λ b. as_one (last_bits lengths.source from) b) second
  where
    parts : (a b c : Bool) → (a && b && c) ≡ true → (a ≡ true) × (b ≡ true)
    parts true true c all = (refl, refl)
    parts true false c all = absurd cc
    parts false b c all = absurd cc

-- the rows from where they do not ask for smaller addresses tell of all rules of the tuple
pub none_of_tuple : (t : Tuple) (rules : List FlowRule) (key : Key) (start place : ℕ) → IsAddress (source_of key.addresses) → IsAddress (target_of key.addresses) → IsTupleOf rules t
    → ((k : ℕ) (d : Row) → k < start → (get_or t.rows.items k d).addresses < addresses_under t.lengths key)
    → NoneOf (drop start t.rows.items) (addresses_under t.lengths key) rules key place
    → (k : ℕ) (row : FlowRule) → slice_get rules k ≡ Some row → same_lengths (lengths_of row.rule) t.lengths ≡ true → k < place → holds row.rule key ≡ false
none_of_tuple t rules key start place source target kept before none k row at same early = by (holds row.rule key) refl
  where
    by : (b : Bool) → holds row.rule key ≡ b → b ≡ false
    by false not_here = refl
    by true here = absurd (found (passed_at (λ r. nat_eq r.place k) t.rows.items (kept.placed k row at same)))
      where
        found : (p : ℕ) × ((p < length t.rows.items) × ((d : Row) → nat_eq (get_or t.rows.items p d).place k ≡ true)) → ⊥
        found (p, (inside, passed)) =
            let d = row_at k row in
            let r = get_or t.rows.items p d in
            let its : r.place ≡ k = same_number r.place k (passed d) in
            let there : slice_get rules r.place ≡ Some row = ap (slice_get rules) its ∙ at in
            let asks : r.addresses ≡ addresses_under t.lengths key = kept.asked p d inside row there ∙ asked_of row.rule key t.lengths source target same here in
            by_start p inside d its asks (cases_lt p start)
          where
            same_number : (a b : ℕ) → nat_eq a b ≡ true → a ≡ b
            same_number a b same = grind (arith, nat_tests)

            by_start : (p : ℕ) → p < length t.rows.items → (d : Row) → (get_or t.rows.items p d).place ≡ k → (get_or t.rows.items p d).addresses ≡ addresses_under t.lengths key
                → (p < start) ⊎ (start ≤ p) → ⊥
            by_start p inside d its asks (inl first) = omega (arith, before p d first, asks)
            by_start p inside d its asks (inr later) =
                let q = p - start in
                let moved : get_or (drop start t.rows.items) q d ≡ get_or t.rows.items p d =
                get_or-drop start t.rows.items q d ∙ ap (λ i. get_or t.rows.items i d) (let e : start + (p - start) ≡ p = omega (arith, later) in e) in
                let within : q < length (drop start t.rows.items) = omega (arith, later, inside, length-drop start t.rows.items) in
                let held_not = none q d within (ap (λ (r : Row). r.addresses) moved ∙ asks) (omega (arith, ap (λ (r : Row). r.place) moved, its, early)) in
                false_true (sym (held_not row (ap (slice_get rules) (ap (λ (r : Row). r.place) moved ∙ its) ∙ at)) ∙ here)
              where
                false_true : false ≡ true → ⊥
                false_true e = absurd cc

-- ---- rules that ask for no more than addresses

and_first : (a b : Bool) → (a && b) ≡ true → a ≡ true
and_first true b all = refl
and_first false b all = absurd cc

and_second : (a b : Bool) → (a && b) ≡ true → b ≡ true
and_second true b all = all
and_second false b all = absurd cc

and_both : (a b : Bool) → a ≡ true → b ≡ true → (a && b) ≡ true
and_both true b first second = second
and_both false b first second = absurd cc

neither : (a b : Bool) → not (a || b) ≡ true → (a ≡ false) × (b ≡ false)
neither false false none = (refl, refl)
neither false true none = absurd cc
neither true b none = absurd cc

-- a part that is not given holds
holds_not_given : {P V : Type 0} (test : P → V → Bool) (part : Option P) (value : V) → is_none part ≡ true → holds_where_given test part value ≡ true
holds_not_given test None value none = refl
holds_not_given test (Some part) value none = absurd cc

-- a prefix holds of an address of IPv4 that has the bits which it asks for
held_by_bits : (prefix : Option Prefix) (address : ℕ) → asks_ipv6 prefix ≡ false → bits_asked prefix ≡ last_bits (length_asked prefix) (addresses.V4 address)
    → holds_where_given is_in_prefix prefix (addresses.V4 address) ≡ true
held_by_bits None a own same = refl
held_by_bits (Some (prefixes.V4 p)) a own same = equal (a / 2 ^ (32 - p.length)) (p.address / 2 ^ (32 - p.length)) (sym same)
  where
    equal : (m n : ℕ) → m ≡ n → nat_eq m n ≡ true
    equal m n same = grind (arith, nat_tests)
held_by_bits (Some (prefixes.V6 p)) a own same = absurd cc

halves : (a b c d : ℕ) → b < 2 ^ 32 → d < 2 ^ 32 → as_one a b ≡ as_one c d → (a ≡ c) × (b ≡ d)
halves a b c d low other same = (omega (arith, low, other, same), omega (arith, low, other, same))

-- a rule that asks for no more than addresses holds of a packet of IPv4 that has these
held_by_addresses : (rule : Rule) (key : Key) (lengths : Lengths) (source target : ℕ) → source_of key.addresses ≡ addresses.V4 source → target_of key.addresses ≡ addresses.V4 target
    → target < 2 ^ 32 → IsDecided lengths rule → addresses_of rule ≡ addresses_under lengths key → holds rule key ≡ true
held_by_addresses rule key lengths source target from to fits decided asked =
    let long = same_test (lengths_of rule) lengths decided.0 in
    let most = decided.1.1 in
    let numbers = and_first _ (is_none rule.target_ports) most in
    let others = and_first _ (is_none rule.source_ports) numbers in
    let parts = and_first _ (is_none rule.dscp) others in
    let own = neither (asks_ipv6 rule.source) (asks_ipv6 rule.target) (and_first (can_take_ipv4 rule) (is_none rule.protocol) parts) in
    let here : as_one (bits_asked rule.source) (bits_asked rule.target) ≡ as_one (source / 2 ^ (32 - lengths.source)) (target / 2 ^ (32 - lengths.target)) =
    asked ∙ ap (λ (a : Address). as_one (last_bits lengths.source a) (last_bits lengths.target (target_of key.addresses))) from
    ∙ ap (λ (a : Address). as_one (source / 2 ^ (32 - lengths.source)) (last_bits lengths.target a)) to in
    let low : target / 2 ^ (32 - lengths.target) < 2 ^ 32 = omega (arith, fits, div-le_self target (2 ^ (32 - lengths.target))) in
    let same = halves (bits_asked rule.source) (bits_asked rule.target) (source / 2 ^ (32 - lengths.source)) (target / 2 ^ (32 - lengths.target)) decided.1.0 low here in
    let first : holds_where_given is_in_prefix rule.source (source_of key.addresses) ≡ true =
    ap (λ (a : Address). holds_where_given is_in_prefix rule.source a) from
    ∙ held_by_bits rule.source source own.0 (same.0 ∙ ap (λ n. source / 2 ^ (32 - n)) (sym long.0)) in
    let second : holds_where_given is_in_prefix rule.target (target_of key.addresses) ≡ true =
    ap (λ (a : Address). holds_where_given is_in_prefix rule.target a) to
    ∙ held_by_bits rule.target target own.1 (same.1 ∙ ap (λ n. target / 2 ^ (32 - n)) (sym long.1)) in
    let ports =
    and_both _ _ (holds_not_given (is_in_range (λ ports. ports.0)) rule.source_ports key.ports (and_second _ (is_none rule.source_ports) numbers))
    (holds_not_given (is_in_range (λ ports. ports.1)) rule.target_ports key.ports (and_second _ (is_none rule.target_ports) most)) in
    let rest =
    and_both _ _ (holds_not_given nat_eq rule.protocol key.protocol (and_second (can_take_ipv4 rule) (is_none rule.protocol) parts))
    (holds_not_given nat_eq rule.dscp key.dscp (and_second _ (is_none rule.dscp) others)) in
    and_both (addresses_hold rule key) (ports_hold rule key && numbers_hold rule key) (and_both _ _ first second) (and_both (ports_hold rule key) (numbers_hold rule key) ports rest)

-- so do those of rows that ask for them
pub decided_rows : (t : Tuple) (rules : List FlowRule) (key : Key) (start : ℕ) → IsTupleOf rules t → t.decides ≡ true → are_ipv4 key.addresses ≡ true → IsAddress (target_of key.addresses)
    → All (λ r. r.addresses ≡ addresses_under t.lengths key → IsHeldAt rules key r.place) (drop start t.rows.items)
decided_rows t rules key start kept sure ipv4 fits = by key.addresses refl
  where
    rows : List Row
    rows = t.rows.items

    by : (a : Addresses) → key.addresses ≡ a → All (λ r. r.addresses ≡ addresses_under t.lengths key → IsHeldAt rules key r.place) (drop start rows)
    by (pairs.V4 source target) is k d within =
        let inside : start + k < length rows = omega (arith, within, length-drop start rows) in
        let low : target < 2 ^ 32 = subst (λ (a : Addresses). IsAddress (target_of a)) is fits in
        rw (get_or-drop start rows k d)
        (λ asked row at.
        held_by_addresses row.rule key t.lengths source target (ap source_of is) (ap target_of is) low (kept.decided sure (start + k) d inside row at)
        (sym (kept.asked (start + k) d inside row at) ∙ asked))
    by (pairs.V6 source target) is k d within = absurd (wrong (sym (ap are_ipv4 is) ∙ ipv4))
      where
        wrong : false ≡ true → ⊥
        wrong e = absurd cc

-- ---- all tuples

pub tuple_at : (rules seen_rules : List FlowRule) (tuples seen : List Tuple) (i : ℕ) (t : Tuple) → All (λ u. IsTupleOf rules u) tuples → seen_rules ≡ rules → seen ≡ tuples
    → i < length seen → t ≡ get_or seen i t → IsTupleOf seen_rules t
tuple_at rules seen_rules tuples seen i t each same_rules same within is =
    let at : t ≡ get_or tuples i t = is ∙ ap (λ (ts : List Tuple). get_or ts i t) same in
    let inside : i < length tuples = subst (λ (ts : List Tuple). i < length ts) same within in
    subst (λ (rs : List FlowRule). IsTupleOf rs t) (sym same_rules) (subst (λ (u : Tuple). IsTupleOf rules u) (sym at) (each i t inside))

-- a place that is found before another is one at which a rule holds; else it is that other
pub still_held : (rules : List FlowRule) (key : Key) (before place : ℕ) → place ≤ before → (place < before → IsHeldAt rules key place)
    → (before < length rules → IsHeldAt rules key before) → place < length rules → IsHeldAt rules key place
still_held rules key before place most found held within = by (cases_lt place before)
  where
    by : (place < before) ⊎ (before ≤ place) → IsHeldAt rules key place
    by (inl less) = found less
    by (inr last) =
        let same : before ≡ place = omega (arith, last, most) in
        subst (λ n. IsHeldAt rules key n) same (held (subst (λ n. n < length rules) (sym same) within))

-- no rule of the first tuples that stands before a place holds
abbrev pub NoneIn : List Tuple → List FlowRule → Key → ℕ → ℕ → Type 0
NoneIn tuples rules key count place =
    (j : ℕ) (d : Tuple) → j < count → (k : ℕ) (row : FlowRule) → slice_get rules k ≡ Some row
    → same_lengths (lengths_of row.rule) (get_or tuples j d).lengths ≡ true → k < place → holds row.rule key ≡ false

pub none_in_more : (tuples : List Tuple) (rules : List FlowRule) (key : Key) (count before place : ℕ) (t : Tuple) → count < length tuples → t ≡ get_or tuples count t → place ≤ before
    → ((k : ℕ) (row : FlowRule) → slice_get rules k ≡ Some row → same_lengths (lengths_of row.rule) t.lengths ≡ true → k < place → holds row.rule key ≡ false)
    → NoneIn tuples rules key count before → NoneIn tuples rules key (count + 1) place
none_in_more tuples rules key count before place t inside is less here so_far j d within k row at same early = by (cases_lt j count)
  where
    by : (j < count) ⊎ (count ≤ j) → holds row.rule key ≡ false
    by (inl first) = so_far j d first k row at same (omega (arith, early, less))
    by (inr last) =
        let it : t ≡ get_or tuples j d = get_or_read tuples count t inside is d ∙ ap (λ i. get_or tuples i d) (let e : count ≡ j = omega (arith, last, within) in e) in
        here k row at (ap (λ (u : Tuple). same_lengths (lengths_of row.rule) u.lengths) it ∙ same) early

pub none_in_all : (tuples : List Tuple) (rules : List FlowRule) (key : Key) (count place : ℕ) → length tuples ≤ count → AreTuplesOf rules tuples → NoneIn tuples rules key count place
    → (k : ℕ) (row : FlowRule) → slice_get rules k ≡ Some row → k < place → holds row.rule key ≡ false
none_in_all tuples rules key count place ended kept none k row at early =
    found (passed_at (λ t. same_lengths (lengths_of row.rule) t.lengths) tuples covered)
  where
    covered : list_any (λ t. same_lengths (lengths_of row.rule) t.lengths) tuples ≡ true
    covered =
        subst (λ (r : FlowRule). list_any (λ t. same_lengths (lengths_of r.rule) t.lengths) tuples ≡ true) (get_or_from_slice_get rules k row row at)
        (kept.covered k row (slice_get_within rules k row at))

    found : (j : ℕ) × ((j < length tuples) × ((d : Tuple) → same_lengths (lengths_of row.rule) (get_or tuples j d).lengths ≡ true)) → holds row.rule key ≡ false
    found (j, (inside, passed)) = with_one tuples inside
      where
        with_one : (ts : List Tuple) → j < length ts → holds row.rule key ≡ false
        with_one [] none_there = absurd (omega (arith, none_there))
        with_one (t ∷ ts) there = none j t (omega (arith, inside, ended)) k row at (passed t) early

pub inside_some : {X : Type 0} (found : Option X) (m : X) (Q : X → Type 0) → found ≡ Some m → IfSome found Q → Q m
inside_some found m Q is got = MatchOption-at_some ⊤ Q m is got

-- the flow of the first rule that holds, by its place
pub found_at : (rules : List FlowRule) (key : Key) (place : ℕ) → IsHeldAt rules key place
    → ((k : ℕ) (row : FlowRule) → slice_get rules k ≡ Some row → k < place → holds row.rule key ≡ false)
    → (row : FlowRule) → slice_get rules place ≡ Some row → Some row.flow ≡ first_flow_of rules key
found_at [] key place here before row at = absurd (none-some row at)
found_at (r ∷ rules) key zero here before row at =
    let e : r ≡ row = same_Some r row at in
    ap (λ (x : FlowRule). Some x.flow) (sym e) ∙ ap (λ b. cond b (Some r.flow) (first_flow_of rules key)) (sym (here r refl))
found_at (r ∷ rules) key (suc place) here before row at =
    found_at rules key place (λ other there. here other there) (λ k other there less. before (suc k) other there (omega (arith, less))) row at
    ∙ ap (λ b. cond b (Some r.flow) (first_flow_of rules key)) (sym (before 0 r refl (omega arith)))

-- the flow at its place, where flows stand by themselves
pub flow_found : (rules : List FlowRule) (flows : List ℕ) (key : Key) (place flow : ℕ) → flows ≡ map (λ row. row.flow) rules → slice_get flows place ≡ Some flow
    → IsHeldAt rules key place → ((k : ℕ) (row : FlowRule) → slice_get rules k ≡ Some row → k < place → holds row.rule key ≡ false) → Some flow ≡ first_flow_of rules key
flow_found rules flows key place flow are at here before = by (slice_get rules place) refl
  where
    there : option_map (λ (row : FlowRule). row.flow) (slice_get rules place) ≡ Some flow
    there = sym (slice_get-map (λ (row : FlowRule). row.flow) rules place) ∙ sym (ap (λ (fs : List ℕ). slice_get fs place) are) ∙ at

    by : (found : Option FlowRule) → slice_get rules place ≡ found → Some flow ≡ first_flow_of rules key
    by (Some row) is = sym (sym (ap (option_map (λ (r : FlowRule). r.flow)) is) ∙ there) ∙ found_at rules key place here before row is
    by None is = absurd (none-some flow (sym (ap (option_map (λ (r : FlowRule). r.flow)) is) ∙ there))

pub found_none : (rules : List FlowRule) (key : Key) (place : ℕ) → length rules ≤ place
    → ((k : ℕ) (row : FlowRule) → slice_get rules k ≡ Some row → k < place → holds row.rule key ≡ false) → None ≡ first_flow_of rules key
found_none [] key place ended before = refl
found_none (r ∷ rules) key zero ended before = absurd (omega (arith, ended))
found_none (r ∷ rules) key (suc place) ended before =
    found_none rules key place (omega (arith, ended)) (λ k other there less. before (suc k) other there (omega (arith, less)))
    ∙ ap (λ b. cond b (Some r.flow) (first_flow_of rules key)) (sym (before 0 r refl (omega arith)))

-- ---- tuples are made

pub rows_next : (lengths : Lengths) (rules : List FlowRule) (place : ℕ) (row : FlowRule) → place < length rules → row ≡ get_or rules place row
    → rows_from lengths place (drop place rules)
    ≡ cond (same_lengths (lengths_of row.rule) lengths) (row_at place row ∷ rows_from lengths (place + 1) (drop (place + 1) rules)) (rows_from lengths (place + 1) (drop (place + 1) rules))
rows_next lengths rules place row inside is =
    ap (rows_from lengths place) (drop_more rules place row inside ∙ ap (λ (r : FlowRule). r ∷ drop (place + 1) rules) (sym is))

-- the row of a rule that asks for so many bits
abbrev IsRowFor : Lengths → FlowRule → Row → Type 0
IsRowFor lengths row r = (r.addresses ≡ addresses_of row.rule) × (same_lengths (lengths_of row.rule) lengths ≡ true)

-- that of one of some rules, the first of which stands at a place
abbrev IsRowOf : Lengths → ℕ → List FlowRule → Row → Type 0
IsRowOf lengths place rules r =
    (place ≤ r.place) × ((r.place < place + length rules) × ((row : FlowRule) → slice_get rules (r.place - place) ≡ Some row → IsRowFor lengths row r))

rows_are : (lengths : Lengths) (place : ℕ) (rules : List FlowRule) → All (IsRowOf lengths place rules) (rows_from lengths place rules)
rows_are lengths place [] = All-nil (IsRowOf lengths place [])
rows_are lengths place (row ∷ rules) =
    by (same_lengths (lengths_of row.rule) lengths) refl
    (All-weaker (IsRowOf lengths (place + 1) rules) (IsRowOf lengths place (row ∷ rules)) one_on (rows_from lengths (place + 1) rules) (rows_are lengths (place + 1) rules))
  where
    one_on : (r : Row) → IsRowOf lengths (place + 1) rules r → IsRowOf lengths place (row ∷ rules) r
    one_on r its = (
      omega (arith, its.0),
      (
        omega (arith, its.1.0),
        λ other at. its.1.1 other (sym (ap (slice_get (row ∷ rules)) (let e : r.place - place ≡ suc (r.place - (place + 1)) = omega (arith, its.0) in e)) ∙ at),
      ),
    )

    own : same_lengths (lengths_of row.rule) lengths ≡ true → IsRowOf lengths place (row ∷ rules) (row_at place row)
    own same = (
      omega arith,
      (
        omega arith,
        λ other at.
            let it : row ≡ other = same_Some row other (sym (ap (slice_get (row ∷ rules)) (let e : place - place ≡ 0 = omega arith in e)) ∙ at) in
            (ap (λ (r : FlowRule). addresses_of r.rule) it, sym (ap (λ (r : FlowRule). same_lengths (lengths_of r.rule) lengths) it) ∙ same),
      ),
    )

    by : (here : Bool) → same_lengths (lengths_of row.rule) lengths ≡ here → All (IsRowOf lengths place (row ∷ rules)) (rows_from lengths (place + 1) rules)
        → All (IsRowOf lengths place (row ∷ rules)) (cond here (row_at place row ∷ rows_from lengths (place + 1) rules) (rows_from lengths (place + 1) rules))
    by true same later = All-cons (IsRowOf lengths place (row ∷ rules)) (row_at place row) (rows_from lengths (place + 1) rules) (own same) later
    by false same later = later

-- each rule that asks for the bits has its row
rows_have : (lengths : Lengths) (place : ℕ) (rules : List FlowRule) (k : ℕ) (row : FlowRule) → slice_get rules k ≡ Some row → same_lengths (lengths_of row.rule) lengths ≡ true
    → list_any (λ r. nat_eq r.place (place + k)) (rows_from lengths place rules) ≡ true
rows_have lengths place [] k row at same = absurd (none-some row at)
rows_have lengths place (r ∷ rules) zero row at same =
    ap (λ here. list_any (λ (s : Row). nat_eq s.place (place + 0)) (cond here (row_at place r ∷ rows_from lengths (place + 1) rules) (rows_from lengths (place + 1) rules)))
    (ap (λ (x : FlowRule). same_lengths (lengths_of x.rule) lengths) (same_Some r row at) ∙ same)
    ∙ ap (λ b. b || list_any (λ (s : Row). nat_eq s.place (place + 0)) (rows_from lengths (place + 1) rules)) (itself place)
  where
    itself : (n : ℕ) → nat_eq n (n + 0) ≡ true
    itself n = grind (arith, nat_tests)
rows_have lengths place (r ∷ rules) (suc k) row at same =
    by (same_lengths (lengths_of r.rule) lengths)
    (ap (λ n. list_any (λ (s : Row). nat_eq s.place n) (rows_from lengths (place + 1) rules)) (let e : place + suc k ≡ place + 1 + k = omega arith in e)
    ∙ rows_have lengths (place + 1) rules k row at same)
  where
    or_true : (b : Bool) → (b || true) ≡ true
    or_true true = refl
    or_true false = refl

    by : (here : Bool) → list_any (λ (s : Row). nat_eq s.place (place + suc k)) (rows_from lengths (place + 1) rules) ≡ true
        → list_any (λ (s : Row). nat_eq s.place (place + suc k)) (cond here (row_at place r ∷ rows_from lengths (place + 1) rules) (rows_from lengths (place + 1) rules)) ≡ true
    by true later = ap (λ b. nat_eq place (place + suc k) || b) later ∙ or_true (nat_eq place (place + suc k))
    by false later = later

-- the rules that ask for so many bits ask for no more
abbrev pub AskNoMore : Lengths → List FlowRule → Type 0
AskNoMore lengths rules = All (λ row. same_lengths (lengths_of row.rule) lengths ≡ true → AsksNoMore row.rule) rules

-- rows that are sorted are a tuple
pub made_tuple : (rules : List FlowRule) (t : Tuple) (rows : List Row) → rows ≡ rows_from t.lengths 0 rules → IsPermutation rows t.rows.items → IsSorted row_cmp t.rows.items
    → (t.decides ≡ true → AskNoMore t.lengths rules) → IsTupleOf rules t
made_tuple rules t rows is moved up alone = record {
  sorted = up;
  within = All-weaker (IsRowOf t.lengths 0 rules) (λ r. r.place < length rules) (λ r its. omega (arith, its.1.0)) t.rows.items all;
  asked = All-weaker (IsRowOf t.lengths 0 rules) (λ r. (row : FlowRule) → slice_get rules r.place ≡ Some row → r.addresses ≡ addresses_of row.rule)
      (λ r its row at. (its.1.1 row (here r row at)).0) t.rows.items all;
  decided = λ sure. All-weaker (IsRowOf t.lengths 0 rules) (λ r. (row : FlowRule) → slice_get rules r.place ≡ Some row → IsDecided t.lengths row.rule)
      (λ r its row at. let same = (its.1.1 row (here r row at)).1 in (same, at_place (alone sure) r.place row at same)) t.rows.items all;
  placed = λ k row at same.
      sym (list_any-IsPermutation (λ r. nat_eq r.place k) rows t.rows.items moved)
      ∙ ap (list_any (λ r. nat_eq r.place k)) is
      ∙ ap (λ n. list_any (λ (r : Row). nat_eq r.place n) (rows_from t.lengths 0 rules)) (let e : k ≡ 0 + k = omega arith in e)
      ∙ rows_have t.lengths 0 rules k row at same;
}
  where
    all : All (IsRowOf t.lengths 0 rules) t.rows.items
    all = All-permutation (IsRowOf t.lengths 0 rules) rows t.rows.items moved (subst (λ (rs : List Row). All (IsRowOf t.lengths 0 rules) rs) (sym is) (rows_are t.lengths 0 rules))

    here : (r : Row) (row : FlowRule) → slice_get rules r.place ≡ Some row → slice_get rules (r.place - 0) ≡ Some row
    here r row at = ap (slice_get rules) (let e : r.place - 0 ≡ r.place = omega arith in e) ∙ at

    at_place : AskNoMore t.lengths rules → (k : ℕ) (row : FlowRule) → slice_get rules k ≡ Some row → same_lengths (lengths_of row.rule) t.lengths ≡ true → AsksNoMore row.rule
    at_place all k row at =
        subst (λ (r : FlowRule). same_lengths (lengths_of r.rule) t.lengths ≡ true → AsksNoMore r.rule) (get_or_from_slice_get rules k row row at)
        (all k row (slice_get_within rules k row at))

-- so do the first rules
abbrev pub AskNoMoreSoFar : Lengths → List FlowRule → ℕ → Type 0
AskNoMoreSoFar lengths rules count =
    (k : ℕ) (d : FlowRule) → k < count → same_lengths (lengths_of (get_or rules k d).rule) lengths ≡ true → AsksNoMore (get_or rules k d).rule

-- one rule more
pub no_more_next : (lengths : Lengths) (rules : List FlowRule) (count : ℕ) (row : FlowRule) → count < length rules → row ≡ get_or rules count row
    → (same_lengths (lengths_of row.rule) lengths ≡ true → AsksNoMore row.rule) → AskNoMoreSoFar lengths rules count → AskNoMoreSoFar lengths rules (count + 1)
no_more_next lengths rules count row inside is here before k d within = by (cases_lt k count)
  where
    by : (k < count) ⊎ (count ≤ k) → same_lengths (lengths_of (get_or rules k d).rule) lengths ≡ true → AsksNoMore (get_or rules k d).rule
    by (inl first) = before k d first
    by (inr last) =
        let it : row ≡ get_or rules k d = get_or_read rules count row inside is d ∙ ap (λ i. get_or rules i d) (let e : count ≡ k = omega (arith, last, within) in e) in
        subst (λ (r : FlowRule). same_lengths (lengths_of r.rule) lengths ≡ true → AsksNoMore r.rule) it here

-- one tuple more
pub tuples_more : (rules : List FlowRule) (tuples : List Tuple) (lengths : List Lengths) (count : ℕ) (t : Tuple) (e : Lengths) → count < length lengths → All (λ u. IsTupleOf rules u) tuples
    → map (λ u. u.lengths) tuples ≡ take count lengths → IsTupleOf rules t → t.lengths ≡ get_or lengths count e
    → All (λ u. IsTupleOf rules u) (tuples ++ t ∷ []) × (map (λ u. u.lengths) (tuples ++ t ∷ []) ≡ take (count + 1) lengths)
tuples_more rules tuples lengths count t e within each same one its = (
  All-push (λ u. IsTupleOf rules u) tuples t each one,
  map_push (λ (u : Tuple). u.lengths) tuples t ∙ ap (λ (ms : List Lengths). ms ++ t.lengths ∷ []) same ∙ ap (λ m. take count lengths ++ m ∷ []) its ∙ sym (take_more lengths count e within),
)

-- ---- each rule is in a tuple

-- these are the bits for which the first rules ask
abbrev pub AreLengthsOf : List Lengths → List FlowRule → ℕ → Type 0
AreLengthsOf found rules count = (k : ℕ) (d : FlowRule) → k < count → list_any (same_lengths (lengths_of (get_or rules k d).rule)) found ≡ true

list_any-map : {X Y : Type 0} (test : Y → Bool) (f : X → Y) (xs : List X) → list_any test (map f xs) ≡ list_any (λ x. test (f x)) xs
list_any-map test f [] = refl
list_any-map test f (x ∷ xs) = ap (λ b. test (f x) || b) (list_any-map test f xs)

pub made_tuples : (rules : List FlowRule) (lengths : List Lengths) (tuples : List Tuple) → All (λ row. list_any (λ m. same_lengths (lengths_of row.rule) m) lengths ≡ true) rules
    → map (λ t. t.lengths) tuples ≡ lengths → All (λ t. IsTupleOf rules t) tuples → AreTuplesOf rules tuples
made_tuples rules lengths tuples covered same each = record {
  each = each;
  covered = λ k d within.
      sym (list_any-map (λ m. same_lengths (lengths_of (get_or rules k d).rule) m) (λ (t : Tuple). t.lengths) tuples)
      ∙ ap (list_any (λ m. same_lengths (lengths_of (get_or rules k d).rule) m)) same ∙ covered k d within;
}
