-- Rules by the family of the packets that they can hold of.
use Rattle.std.specs.Prelude.{Bool, true, false, not, ◌||◌, List, filter, Option, None, Some}
use Rattle.flow_classifier.specs.declared.key.Addresses.{Addresses}
use Rattle.flow_classifier.specs.declared.key.Addresses.TheVariants as pairs
use Rattle.flow_classifier.specs.declared.prefix.Prefix.{Prefix}
use Rattle.flow_classifier.specs.declared.prefix.Prefix.TheVariants.{V4, V6}
use Rattle.flow_classifier.specs.declared.rule.Rule.{Rule}
use Rattle.flow_classifier.specs.declared.table.FlowRule.{FlowRule}

-- an address of IPv4 is asked for, or one of IPv6
abbrev pub asks_ipv4 : Option Prefix → Bool
asks_ipv4 None = false
asks_ipv4 (Some (V4 prefix)) = true
asks_ipv4 (Some (V6 prefix)) = false

abbrev pub asks_ipv6 : Option Prefix → Bool
asks_ipv6 None = false
asks_ipv6 (Some (V4 prefix)) = false
asks_ipv6 (Some (V6 prefix)) = true

-- a rule can hold of packets of IPv4 unless it asks for an address of IPv6, and the other way round
abbrev pub can_take_ipv4 : Rule → Bool
can_take_ipv4 rule = not (asks_ipv6 rule.source || asks_ipv6 rule.target)

abbrev pub can_take_ipv6 : Rule → Bool
can_take_ipv6 rule = not (asks_ipv4 rule.source || asks_ipv4 rule.target)

-- the rules that packets of each family are asked for, in order
pub record TablesValue : Type 0 where
  pub ipv4 : List FlowRule
  pub ipv6 : List FlowRule

abbrev pub by_family : List FlowRule → TablesValue
by_family rules = record {
  ipv4 = filter (λ row. can_take_ipv4 row.rule) rules;
  ipv6 = filter (λ row. can_take_ipv6 row.rule) rules;
}

-- those for packets with addresses of a family
abbrev pub rules_for : TablesValue → Addresses → List FlowRule
rules_for tables (pairs.V4 source target) = tables.ipv4
rules_for tables (pairs.V6 source target) = tables.ipv6
