-- Rules by the family of the packets that they can hold of.
use Rattle.std.proofs.Common.{◌≡◌, ◌<◌, ◌≤◌, ◌+◌, ℕ, Bool, true, false, not, ◌&&◌, ◌||◌, cond, List, [], ◌∷◌, ◌++◌, length, drop, get_or, Option, None, Some, refl, sym, ap, ◌∙◌, append-nil, append_assoc}
use Rattle.std.specs.List.{filter}
use Rattle.std.proofs.lemmas.List.{drop_all, drop_more}
use Rattle.flow_classifier.specs.Families.{asks_ipv4, asks_ipv6, by_family, can_take_ipv4, can_take_ipv6, rules_for}
use Rattle.flow_classifier.specs.Keys.{source_of, target_of}
use Rattle.flow_classifier.specs.Matching.{holds, holds_where_given, is_in_prefix, numbers_hold, ports_hold}
use Rattle.flow_classifier.specs.Tables.{first_flow_of}
use Rattle.flow_classifier.specs.declared.key.Address.TheVariants as addresses
use Rattle.flow_classifier.specs.declared.key.Addresses.{Addresses}
use Rattle.flow_classifier.specs.declared.key.Addresses.TheVariants as pairs
use Rattle.flow_classifier.specs.declared.key.Key.{Key}
use Rattle.flow_classifier.specs.declared.prefix.Prefix.{Prefix}
use Rattle.flow_classifier.specs.declared.prefix.Prefix.TheVariants.{V4, V6}
use Rattle.flow_classifier.specs.declared.rule.Rule.{Rule}
use Rattle.flow_classifier.specs.declared.table.FlowRule.{FlowRule}

-- one rule more, where it passes
pub one_more : (test : FlowRule → Bool) (rules taken grown all : List FlowRule) (index : ℕ) (row : FlowRule) (passes : Bool) → index < length rules → row ≡ get_or rules index row
    → passes ≡ test row → grown ≡ taken ++ cond passes (row ∷ []) [] → taken ++ filter test (drop index rules) ≡ all → grown ++ filter test (drop (index + 1) rules) ≡ all
one_more test rules taken grown all index row passes inside is tests grows kept =
    ap (λ (g : List FlowRule). g ++ filter test (drop (index + 1) rules)) (grows ∙ ap (λ b. taken ++ cond b (row ∷ []) []) tests)
    ∙ append_assoc taken (cond (test row) (row ∷ []) []) (filter test (drop (index + 1) rules))
    ∙ ap (λ (more : List FlowRule). taken ++ more) (by (test row) (filter test (drop (index + 1) rules)))
    ∙ ap (λ (left : List FlowRule). taken ++ filter test left) (sym (drop_more rules index row inside ∙ ap (λ (r : FlowRule). r ∷ drop (index + 1) rules) (sym is)))
    ∙ kept
  where
    by : (b : Bool) (more : List FlowRule) → cond b (row ∷ []) [] ++ more ≡ cond b (row ∷ more) more
    by true more = refl
    by false more = refl

-- all of them, where none is left
pub none_left : (test : FlowRule → Bool) (rules taken all : List FlowRule) (index : ℕ) → length rules ≤ index → taken ++ filter test (drop index rules) ≡ all → taken ≡ all
none_left test rules taken all index ended kept =
    sym (append-nil taken) ∙ ap (λ (left : List FlowRule). taken ++ filter test left) (sym (drop_all index rules ended)) ∙ kept

-- ---- a rule that cannot hold of packets of a family holds of none

no_ipv4 : (prefix : Option Prefix) (address : ℕ) → asks_ipv6 prefix ≡ true → holds_where_given is_in_prefix prefix (addresses.V4 address) ≡ false
no_ipv4 None address asks = absurd cc
no_ipv4 (Some (V4 p)) address asks = absurd cc
no_ipv4 (Some (V6 p)) address asks = refl

no_ipv6 : (prefix : Option Prefix) (address : ℕ) → asks_ipv4 prefix ≡ true → holds_where_given is_in_prefix prefix (addresses.V6 address) ≡ false
no_ipv6 None address asks = absurd cc
no_ipv6 (Some (V6 p)) address asks = absurd cc
no_ipv6 (Some (V4 p)) address asks = refl

either : (a b c d e : Bool) → (a ≡ true → c ≡ false) → (b ≡ true → d ≡ false) → not (a || b) ≡ false → (c && d && e) ≡ false
either true b false d e first second asks = refl
either true b true d e first second asks = absurd (let no : true ≡ false = first refl in cc)
either false true false false e first second asks = refl
either false true true false e first second asks = refl
either false true c true e first second asks = absurd (let no : true ≡ false = second refl in cc)
either false false c d e first second asks = absurd cc

-- where rules that hold of no packet are left out, the same is found
filtered : (test : Rule → Bool) (key : Key) → ((rule : Rule) → test rule ≡ false → holds rule key ≡ false) → (rules : List FlowRule)
    → first_flow_of (filter (λ row. test row.rule) rules) key ≡ first_flow_of rules key
filtered test key none [] = refl
filtered test key none (row ∷ rules) = by (test row.rule) refl (filtered test key none rules)
  where
    by : (b : Bool) → test row.rule ≡ b → first_flow_of (filter (λ r. test r.rule) rules) key ≡ first_flow_of rules key
        → first_flow_of (cond b (row ∷ filter (λ r. test r.rule) rules) (filter (λ r. test r.rule) rules)) key ≡ cond (holds row.rule key) (Some row.flow) (first_flow_of rules key)
    by true passes rest = ap (cond (holds row.rule key) (Some row.flow)) rest
    by false fails rest = rest ∙ ap (λ b. cond b (Some row.flow) (first_flow_of rules key)) (sym (none row.rule fails))

-- what is found of a family's rules is what is found of all
pub found_by_family : (rules : List FlowRule) (key : Key) → first_flow_of (rules_for (by_family rules) key.addresses) key ≡ first_flow_of rules key
found_by_family rules key = by key.addresses refl
  where
    by : (both : Addresses) → both ≡ key.addresses → first_flow_of (rules_for (by_family rules) both) key ≡ first_flow_of rules key
    by (pairs.V4 source target) is = filtered can_take_ipv4 key none rules
      where
        none : (rule : Rule) → can_take_ipv4 rule ≡ false → holds rule key ≡ false
        none rule cannot =
            ap (λ both. holds_where_given is_in_prefix rule.source (source_of both) && holds_where_given is_in_prefix rule.target (target_of both)
            && (ports_hold rule key && numbers_hold rule key)) (sym is)
            ∙ either (asks_ipv6 rule.source) (asks_ipv6 rule.target) _ _ (ports_hold rule key && numbers_hold rule key) (no_ipv4 rule.source source)
            (no_ipv4 rule.target target) cannot
    by (pairs.V6 source target) is = filtered can_take_ipv6 key none rules
      where
        none : (rule : Rule) → can_take_ipv6 rule ≡ false → holds rule key ≡ false
        none rule cannot =
            ap (λ both. holds_where_given is_in_prefix rule.source (source_of both) && holds_where_given is_in_prefix rule.target (target_of both)
            && (ports_hold rule key && numbers_hold rule key)) (sym is)
            ∙ either (asks_ipv4 rule.source) (asks_ipv4 rule.target) _ _ (ports_hold rule key && numbers_hold rule key) (no_ipv6 rule.source source)
            (no_ipv6 rule.target target) cannot
