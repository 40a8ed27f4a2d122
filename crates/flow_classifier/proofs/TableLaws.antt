-- Tables of rules: sources that are tested at once, and groups of rules one after the other.
use Rattle.std.proofs.Common.{◌≡◌, ◌⊎◌, inl, inr, ◌<◌, ◌≤◌, ◌+◌, ◌-◌, ◌^◌, ◌%◌, ℕ, zero, suc, nat_eq, eqb, Bool, true, false, not, ◌&&◌, cond, bit_and, w32, List, [], ◌∷◌, ◌++◌, length, length-append, length-drop, length-set, map, set, drop, take, get_or, replicate, Option, None, Some, Result, Ok, Err, refl, subst, sym, ap, ◌∙◌, arith, append-nil, append_assoc}
use Rattle.std.specs.Prelude.{if◌then◌else◌, is_some, slice_get, slice_index, slice_set, OnOk}
use Rattle.std.specs.Int.Bits.{and_zero_r}
use Rattle.std.specs.List.{prefix_len}
use Rattle.std.specs.Option.{option_or}
use Rattle.std.specs.Simd.Lanes.{mask_l, top, zip2}
use Rattle.std.proofs.lemmas.Bool.{cases_lt}
use Rattle.std.proofs.lemmas.Bool.Decides.{nat_tests}
use Rattle.std.proofs.lemmas.Grind.{get_or-set_at}
use Rattle.std.proofs.lemmas.List.{drop_all, drop_more, get_or-replicate, get_or-set_other, length-replicate, map-id, take_all}
use Rattle.std.proofs.lemmas.Option.{none-some, same_Some, slice_get_within}
use Rattle.std.proofs.lemmas.Simd.{first_set_mask_l, get_or-zip2, length-zip2, mask_l-mod, tops_compared}
use lib.Count.{count_trailing_zeros}
use Rattle.flow_classifier.specs.Kept.{AreBeside, IsAskedAt, rules_in}
use Rattle.flow_classifier.specs.Matching.{holds, holds_where_given, is_in_prefix, numbers_hold, ports_hold}
use Rattle.flow_classifier.specs.Keys.{source_of, target_of}
use Rattle.flow_classifier.specs.Parts.{mask_of, network_of}
use Rattle.flow_classifier.specs.Tables.{first_flow_of, mask_asked, network_asked}
use Rattle.flow_classifier.specs.declared.key.Address.{Address}
use Rattle.flow_classifier.specs.declared.key.Address.TheVariants as addresses
use Rattle.flow_classifier.specs.declared.key.Key.{Key}
use Rattle.flow_classifier.specs.declared.prefix.Prefix.{Prefix}
use Rattle.flow_classifier.specs.declared.prefix.Prefix.TheVariants as prefixes
use Rattle.flow_classifier.specs.declared.table.FlowRule.{FlowRule}
use Rattle.flow_classifier.specs.declared.table.Sources.{Sources}
use Rattle.flow_classifier.proofs.MaskLaws.{masked, same_network}

-- ---- sources that are tested at once

abbrev under : ℕ → ℕ → ℕ
under a b = bit_and a b

abbrev pub same_lane : ℕ → ℕ → ℕ
same_lane a b = cond (eqb a b) (2 ^ 32 - 1) 0

-- which of the sources an address is
abbrev pub sames : ℕ → List ℕ → List ℕ → List Bool
sames address masks networks = zip2 eqb (zip2 under (replicate 16 address) masks) networks

-- the test as lanes give it
abbrev pub lanes_told : ℕ → List ℕ → List ℕ → ℕ
lanes_told address masks networks = mask_l (map (top 31) (zip2 same_lane (zip2 under (replicate 16 address) masks) networks)) % 2 ^ 64

wide_first : (address : ℕ) (masks : List ℕ) → length masks ≡ 16 → length (zip2 under (replicate 16 address) masks) ≡ 16
wide_first address masks wide = length-zip2 under (replicate 16 address) masks (length-replicate 16 address ∙ sym wide) ∙ length-replicate 16 address

wide_all : (address : ℕ) (masks networks : List ℕ) → length masks ≡ 16 → length networks ≡ 16 → length (sames address masks networks) ≡ 16
wide_all address masks networks wide too =
    length-zip2 eqb (zip2 under (replicate 16 address) masks) networks (wide_first address masks wide ∙ sym too) ∙ wide_first address masks wide

lanes_are : (address : ℕ) (masks networks : List ℕ) → length masks ≡ 16 → length networks ≡ 16 → lanes_told address masks networks ≡ mask_l (sames address masks networks)
lanes_are address masks networks wide too =
    ap (λ l. mask_l l % 2 ^ 64) (tops_compared w32 eqb (zip2 under (replicate 16 address) masks) networks)
    ∙ mask_l-mod (sames address masks networks) 64 (omega (arith, wide_all address masks networks wide too))

-- before the first of the sources that an address is, it is none
before_first : (same : List Bool) (k : ℕ) → k < prefix_len not same → get_or same k false ≡ false
before_first [] k before = absurd (omega (arith, before))
before_first (true ∷ same) k before = absurd (omega (arith, before))
before_first (false ∷ same) zero before = refl
before_first (false ∷ same) (suc k) before = before_first same k (omega (arith, before))

apart : (a b : ℕ) → eqb a b ≡ false → ¬ (a ≡ b)
apart a b other same = absurd (grind (arith, nat_tests))

-- the place that is told
abbrev pub place_told : ℕ → ℕ
place_told places = cond (eqb places 0) 16 (count_trailing_zeros 64 places)

told_is : (address : ℕ) (masks networks : List ℕ) → length masks ≡ 16 → length networks ≡ 16
    → place_told (lanes_told address masks networks) ≡ prefix_len not (sames address masks networks)
told_is address masks networks wide too =
    ap place_told (lanes_are address masks networks wide too ∙ ap mask_l (sym (map-id (sames address masks networks))))
    ∙ first_set_mask_l (λ same. same) (sames address masks networks) 16 (wide_all address masks networks wide too) (omega arith)

-- an address that a source holds of has what is asked in the bits that count
held : (source : Option Prefix) (address : ℕ) → address < 2 ^ 32 → holds_where_given is_in_prefix source (addresses.V4 address) ≡ true
    → bit_and address (mask_asked source) ≡ network_asked source
held None address fits holds = and_zero_r address
held (Some (prefixes.V6 p)) address fits holds = and_zero_r address
held (Some (prefixes.V4 p)) address fits holds =
    masked address (mask_of p.length) p.length fits refl
    ∙ same_number (network_of address p.length) (network_of p.address p.length) (same_network address p.address p.length ∙ holds)
  where
    same_number : (a b : ℕ) → nat_eq a b ≡ true → a ≡ b
    same_number a b same = grind (arith, nat_tests)

not_true : (b : Bool) → ¬ (b ≡ true) → b ≡ false
not_true true other = absurd (other refl)
not_true false other = refl

-- before the place that is told, no source that is asked for holds of the address
pub none_held : (s : Sources) (address place : ℕ) → address < 2 ^ 32 → length s.masks ≡ 16 → length s.networks ≡ 16 → place ≡ place_told (lanes_told address s.masks s.networks)
    → (k : ℕ) (source : Option Prefix) → k < 16 → k < place → IsAskedAt s k source → holds_where_given is_in_prefix source (addresses.V4 address) ≡ false
none_held s address place fits wide too told k source within before asked =
    not_true (holds_where_given is_in_prefix source (addresses.V4 address)) (λ holds.
    apart (bit_and address (get_or s.masks k 0)) (get_or s.networks k 0) other
    (ap (bit_and address) asked.0 ∙ held source address fits holds ∙ sym asked.1))
  where
    lanes : List ℕ
    lanes = zip2 under (replicate 16 address) s.masks

    other : eqb (bit_and address (get_or s.masks k 0)) (get_or s.networks k 0) ≡ false
    other =
        let first : length lanes ≡ 16 = wide_first address s.masks wide in
        let lane : get_or lanes k 0 ≡ bit_and address (get_or s.masks k 0) =
        get_or-zip2 under (replicate 16 address) s.masks k 0 0 0 (omega (arith, within, length-replicate 16 address)) (omega (arith, within, wide))
        ∙ ap (λ a. bit_and a (get_or s.masks k 0)) (get_or-replicate 16 k address 0 within) in
        let here : get_or (sames address s.masks s.networks) k false ≡ eqb (get_or lanes k 0) (get_or s.networks k 0) =
        get_or-zip2 eqb lanes s.networks k 0 0 false (omega (arith, within, first)) (omega (arith, within, too)) in
        ap (λ a. eqb a (get_or s.networks k 0)) (sym lane) ∙ sym here
        ∙ before_first (sames address s.masks s.networks) k (subst (λ n. k < n) (told ∙ told_is address s.masks s.networks wide too) before)

-- ---- the first rule that holds

-- rules whose sources do not hold are left out
pub left_out : (rules : List FlowRule) (count : ℕ) (key : Key)
    → ((k : ℕ) (row : FlowRule) → k < count → slice_get rules k ≡ Some row → holds_where_given is_in_prefix row.rule.source (source_of key.addresses) ≡ false)
    → first_flow_of rules key ≡ first_flow_of (drop count rules) key
left_out rules zero key none = refl
left_out [] (suc count) key none = refl
left_out (row ∷ rules) (suc count) key none =
    ap (λ here. if here && holds_where_given is_in_prefix row.rule.target (target_of key.addresses) && (ports_hold row.rule key && numbers_hold row.rule key) then Some row.flow else first_flow_of rules key)
    (none 0 row (omega arith) refl)
    ∙ left_out rules count key (λ k other within at. none (suc k) other (omega (arith, within)) at)

-- the first of what is left, by whether the next rule holds
pub next_flow : (rules : List FlowRule) (index : ℕ) (row : FlowRule) (key : Key) → index < length rules → row ≡ get_or rules index row
    → first_flow_of (drop index rules) key ≡ cond (holds row.rule key) (Some row.flow) (first_flow_of (drop (index + 1) rules) key)
next_flow rules index row key inside is =
    ap (λ left. first_flow_of left key) (drop_more rules index row inside ∙ ap (λ (r : FlowRule). r ∷ drop (index + 1) rules) (sym is))

-- nothing is found behind the last rule
pub no_flow : (rules : List FlowRule) (index : ℕ) (key : Key) → length rules ≤ index → first_flow_of (drop index rules) key ≡ None
no_flow rules index key ended = ap (λ left. first_flow_of left key) (drop_all index rules ended)

abbrev rest_of : List FlowRule → ℕ → List FlowRule
rest_of rules count = take (length rules - count) (drop count rules)

rest_is : (rules : List FlowRule) (count : ℕ) → rest_of rules count ≡ drop count rules
rest_is rules count = take_all (length rules - count) (drop count rules) (omega (arith, length-drop count rules))

-- no source of the first rules holds
abbrev pub NoneAsk : List FlowRule → ℕ → Key → Type 0
NoneAsk rules count key = (k : ℕ) (row : FlowRule) → k < count → slice_get rules k ≡ Some row → holds_where_given is_in_prefix row.rule.source (source_of key.addresses) ≡ false

pub none_ask : (s : Sources) (rules seen : List FlowRule) (first count : ℕ) (key : Key) (from : Address) → from ≡ source_of key.addresses → AreBeside s rules → seen ≡ rules
    → count ≤ first → ((k : ℕ) (source : Option Prefix) → k < 16 → k < first → IsAskedAt s k source → holds_where_given is_in_prefix source from ≡ false)
    → NoneAsk seen count key
none_ask s rules seen first count key from its kept same few none k row before at =
    let there : slice_get rules k ≡ Some row = ap (λ (all : List FlowRule). slice_get all k) (sym same) ∙ at in
    ap (holds_where_given is_in_prefix row.rule.source) (sym its) ∙ none k row.rule.source (omega (arith, slice_get_within rules k row there, kept.few)) (omega (arith, before, few)) (kept.asked k row there)

-- a rule that holds, where none of those before it does
pub flow_found : (rules : List FlowRule) (count index : ℕ) (row : FlowRule) (key : Key) → NoneAsk rules count key → index < length (rest_of rules count)
    → row ≡ get_or (rest_of rules count) index row → holds row.rule key ≡ true → first_flow_of (rest_of rules count) key ≡ first_flow_of (drop index (rest_of rules count)) key
    → Some row.flow ≡ first_flow_of rules key
flow_found rules count index row key none inside is here kept =
    sym (left_out rules count key none ∙ ap (λ left. first_flow_of left key) (sym (rest_is rules count)) ∙ kept
    ∙ next_flow (rest_of rules count) index row key inside is
    ∙ ap (λ found. cond found (Some row.flow) (first_flow_of (drop (index + 1) (rest_of rules count)) key)) here)

pub none_found : (rules : List FlowRule) (count index : ℕ) (key : Key) → NoneAsk rules count key → length (rest_of rules count) ≤ index
    → first_flow_of (rest_of rules count) key ≡ first_flow_of (drop index (rest_of rules count)) key → None ≡ first_flow_of rules key
none_found rules count index key none ended kept =
    sym (left_out rules count key none ∙ ap (λ left. first_flow_of left key) (sym (rest_is rules count)) ∙ kept ∙ no_flow (rest_of rules count) index key ended)

-- what is found of rules behind others
pub flow_append : (rules others : List FlowRule) (key : Key) → first_flow_of (rules ++ others) key ≡ option_or (first_flow_of rules key) (first_flow_of others key)
flow_append [] others key = refl
flow_append (row ∷ rules) others key = by (holds row.rule key) (flow_append rules others key)
  where
    by : (here : Bool) → first_flow_of (rules ++ others) key ≡ option_or (first_flow_of rules key) (first_flow_of others key)
        → cond here (Some row.flow) (first_flow_of (rules ++ others) key) ≡ option_or (cond here (Some row.flow) (first_flow_of rules key)) (first_flow_of others key)
    by true rest = refl
    by false rest = rest

-- the first of them is found, or else the first of the others
pub found_first : (rules others : List FlowRule) (key : Key) (found : Option ℕ) → found ≡ first_flow_of rules key → is_some found ≡ true → found ≡ first_flow_of (rules ++ others) key
found_first rules others key None here some = absurd cc
found_first rules others key (Some flow) here some = sym (flow_append rules others key ∙ ap (λ o. option_or o (first_flow_of others key)) (sym here))

pub found_next : (rules others : List FlowRule) (key : Key) (found : Option ℕ) → found ≡ first_flow_of rules key → is_some found ≡ false
    → first_flow_of others key ≡ first_flow_of (rules ++ others) key
found_next rules others key None here none = sym (flow_append rules others key ∙ ap (λ o. option_or o (first_flow_of others key)) (sym here))
found_next rules others key (Some flow) here none = absurd cc

-- the same, group by group
pub next_group : (groups : List (List FlowRule)) (index : ℕ) (group : List FlowRule) (key : Key) → index < length groups → group ≡ get_or groups index group
    → first_flow_of (rules_in (drop index groups)) key ≡ option_or (first_flow_of group key) (first_flow_of (rules_in (drop (index + 1) groups)) key)
next_group groups index group key inside is =
    ap (λ left. first_flow_of (rules_in left) key) (drop_more groups index group inside ∙ ap (λ (g : List FlowRule). g ∷ drop (index + 1) groups) (sym is))
    ∙ flow_append group (rules_in (drop (index + 1) groups)) key

-- ---- one rule more

pub ok_then : {T E P Q : Type 0} (r : Result T E) → (P → Q) → OnOk r P → OnOk r Q
ok_then (Ok x) gives p = gives p
ok_then (Err e) gives p = p

-- the last group has one rule more
pub grown_last : (groups : List (List FlowRule)) (place : ℕ) (group : List FlowRule) (row : FlowRule) → place + 1 ≡ length groups → group ≡ get_or groups place group
    → rules_in (set groups place (group ++ row ∷ [])) ≡ rules_in groups ++ row ∷ []
grown_last [] place group row last is = absurd (omega (arith, last))
grown_last (g ∷ []) zero group row last is =
    ap (λ (h : List FlowRule). (h ++ row ∷ []) ++ []) is ∙ append-nil (g ++ row ∷ []) ∙ ap (λ (h : List FlowRule). h ++ row ∷ []) (sym (append-nil g))
grown_last (g ∷ h ∷ groups) zero group row last is = absurd (omega (arith, last))
grown_last (g ∷ groups) (suc place) group row last is =
    ap (λ (rest : List FlowRule). g ++ rest) (grown_last groups place group row (omega (arith, last)) is) ∙ sym (append_assoc g (rules_in groups) (row ∷ []))

get_before : (rules : List FlowRule) (row : FlowRule) (k : ℕ) → k < length rules → slice_get (rules ++ row ∷ []) k ≡ slice_get rules k
get_before [] row k before = absurd (omega (arith, before))
get_before (r ∷ rules) row zero before = refl
get_before (r ∷ rules) row (suc k) before = get_before rules row k (omega (arith, before))

get_last : (rules : List FlowRule) (row other : FlowRule) (k : ℕ) → length rules ≤ k → slice_get (rules ++ row ∷ []) k ≡ Some other → (k ≡ length rules) × (row ≡ other)
get_last [] row other zero behind at = (refl, same_Some row other at)
get_last [] row other (suc k) behind at = absurd (none-some other at)
get_last (r ∷ rules) row other zero behind at = absurd (omega (arith, behind))
get_last (r ∷ rules) row other (suc k) behind at =
    let rest = get_last rules row other k (omega (arith, behind)) at in (ap suc rest.0, rest.1)

-- and what it asks of a source stands at its place
pub beside_more : (s : Sources) (rules : List FlowRule) (row : FlowRule) → length rules < 16 → AreBeside s rules
    → AreBeside (record { masks = slice_set s.masks (length rules) (mask_asked row.rule.source); networks = slice_set s.networks (length rules) (network_asked row.rule.source) }) (rules ++ row ∷ [])
beside_more s rules row room kept = record {
  masks = length-set s.masks (length rules) (mask_asked row.rule.source) ∙ kept.masks;
  networks = length-set s.networks (length rules) (network_asked row.rule.source) ∙ kept.networks;
  few = omega (arith, room, length-append rules (row ∷ []));
  asked = λ k other at. by k other at (cases_lt k (length rules));
}
  where
    put : (lanes : List ℕ) (value k : ℕ) → k < length rules → slice_index (slice_set lanes (length rules) value) k ≡ slice_index lanes k
    put lanes value k before = get_or-set_other lanes (length rules) k value 0 (omega (arith, before))

    own : (lanes : List ℕ) (value k : ℕ) → length lanes ≡ 16 → k ≡ length rules → slice_index (slice_set lanes (length rules) value) k ≡ value
    own lanes value k wide at = get_or-set_at lanes (length rules) k value 0 at (omega (arith, wide, room))

    by : (k : ℕ) (other : FlowRule) → slice_get (rules ++ row ∷ []) k ≡ Some other → (k < length rules) ⊎ (length rules ≤ k)
        → IsAskedAt
        (record { masks = slice_set s.masks (length rules) (mask_asked row.rule.source); networks = slice_set s.networks (length rules) (network_asked row.rule.source) }) k
        other.rule.source
    by k other at (inl before) =
        let was = kept.asked k other (sym (get_before rules row k before) ∙ at) in
        (put s.masks (mask_asked row.rule.source) k before ∙ was.0, put s.networks (network_asked row.rule.source) k before ∙ was.1)
    by k other at (inr behind) =
        let last = get_last rules row other k behind at in
        let source : row.rule.source ≡ other.rule.source = ap (λ (r : FlowRule). r.rule.source) last.1 in (
          own s.masks (mask_asked row.rule.source) k kept.masks last.0 ∙ ap mask_asked source,
          own s.networks (network_asked row.rule.source) k kept.networks last.0 ∙ ap network_asked source,
        )

-- ---- what is found group by group

pub found_here : (all : List FlowRule) (groups : List (List FlowRule)) (index : ℕ) (group : List FlowRule) (key : Key) (found : Option ℕ) → index < length groups
    → group ≡ get_or groups index group → found ≡ first_flow_of group key → is_some found ≡ true → first_flow_of all key ≡ first_flow_of (rules_in (drop index groups)) key
    → found ≡ first_flow_of all key
found_here all groups index group key None inside is here some kept = absurd cc
found_here all groups index group key (Some flow) inside is here some kept =
    sym (kept ∙ next_group groups index group key inside is ∙ ap (λ o. option_or o (first_flow_of (rules_in (drop (index + 1) groups)) key)) (sym here))

pub found_later : (all : List FlowRule) (groups : List (List FlowRule)) (index : ℕ) (group : List FlowRule) (key : Key) (found : Option ℕ) → index < length groups
    → group ≡ get_or groups index group → found ≡ first_flow_of group key → is_some found ≡ false → first_flow_of all key ≡ first_flow_of (rules_in (drop index groups)) key
    → first_flow_of all key ≡ first_flow_of (rules_in (drop (index + 1) groups)) key
found_later all groups index group key None inside is here none kept =
    kept ∙ next_group groups index group key inside is ∙ ap (λ o. option_or o (first_flow_of (rules_in (drop (index + 1) groups)) key)) (sym here)
found_later all groups index group key (Some flow) inside is here none kept = absurd cc
