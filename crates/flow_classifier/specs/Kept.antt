-- What the fields of a table of rules stand for, and what they keep.
use Rattle.std.specs.Prelude.{◌≡◌, ℕ, ◌≤◌, List, flat_map, length, slice_get, slice_index, Option, Some}
use Rattle.flow_classifier.specs.Tables.{mask_asked, network_asked}
use Rattle.flow_classifier.specs.declared.prefix.Prefix.{Prefix}
use Rattle.flow_classifier.specs.declared.table.FlowRule.{FlowRule}
use Rattle.flow_classifier.specs.declared.table.Sources.{Sources}

-- what a rule asks of a source stands at a place
abbrev pub IsAskedAt : Sources → ℕ → Option Prefix → Type 0
IsAskedAt s k source = (slice_index s.masks k ≡ mask_asked source) × (slice_index s.networks k ≡ network_asked source)

-- what each rule asks of a source stands at the rule's place
pub record AreBeside (s : Sources) (rules : List FlowRule) : Type 0 where
  pub masks : length s.masks ≡ 16
  pub networks : length s.networks ≡ 16
  pub few : length rules ≤ 16
  pub asked : (k : ℕ) (row : FlowRule) → slice_get rules k ≡ Some row → IsAskedAt s k row.rule.source

-- the rules of all groups, one group after the other
abbrev pub rules_in : List (List FlowRule) → List FlowRule
rules_in groups = flat_map (λ group. group) groups
