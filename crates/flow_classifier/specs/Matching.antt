-- Which rules hold of a packet, and which rule is the first that does.
use Rattle.std.specs.Prelude.{ℕ, ◌-◌, ◌/◌, ◌^◌, Bool, true, false, nat_eq, nat_le, ◌&&◌, List, position, Option, None}
use Rattle.std.specs.Prelude.{Some}
use Rattle.flow_classifier.specs.Parts.{PrefixValue, PortRangeValue}
use Rattle.flow_classifier.specs.Keys.{source_of, target_of}
use Rattle.flow_classifier.specs.declared.key.Address.{Address}
use Rattle.flow_classifier.specs.declared.key.Address.TheVariants as addresses
use Rattle.flow_classifier.specs.declared.key.Key.{Key}
use Rattle.flow_classifier.specs.declared.prefix.Prefix.{Prefix}
use Rattle.flow_classifier.specs.declared.prefix.Prefix.TheVariants as prefixes
use Rattle.flow_classifier.specs.declared.rule.Rule.{Rule}

-- a part that is given holds of a value; one that is not given holds of every value
abbrev pub holds_where_given : {P V : Type 0} → (P → V → Bool) → Option P → V → Bool
holds_where_given holds None value = true
holds_where_given holds (Some part) value = holds part value

-- two addresses of so many bits agree in their first bits
abbrev pub agree : ℕ → PrefixValue → ℕ → Bool
agree width prefix address =
    nat_eq (address / 2 ^ (width - prefix.length)) (prefix.address / 2 ^ (width - prefix.length))

-- a prefix holds of addresses of its own family alone
abbrev pub is_in_prefix : Prefix → Address → Bool
is_in_prefix (prefixes.V4 prefix) (addresses.V4 address) = agree 32 prefix address
is_in_prefix (prefixes.V6 prefix) (addresses.V6 address) = agree 128 prefix address
is_in_prefix (prefixes.V4 prefix) (addresses.V6 address) = false
is_in_prefix (prefixes.V6 prefix) (addresses.V4 address) = false

-- there are ports, and the one that is picked is in the range
abbrev pub is_in_range : (ℕ × ℕ → ℕ) → PortRangeValue → Option (ℕ × ℕ) → Bool
is_in_range picked range None = false
is_in_range picked range (Some ports) = nat_le range.low (picked ports) && nat_le (picked ports) range.high

abbrev pub addresses_hold : Rule → Key → Bool
addresses_hold rule key =
    holds_where_given is_in_prefix rule.source (source_of key.addresses)
    && holds_where_given is_in_prefix rule.target (target_of key.addresses)

abbrev pub ports_hold : Rule → Key → Bool
ports_hold rule key =
    holds_where_given (is_in_range (λ ports. ports.0)) rule.source_ports key.ports
    && holds_where_given (is_in_range (λ ports. ports.1)) rule.target_ports key.ports

abbrev pub numbers_hold : Rule → Key → Bool
numbers_hold rule key =
    holds_where_given nat_eq rule.protocol key.protocol && holds_where_given nat_eq rule.dscp key.dscp

-- each part of the rule that is given holds
abbrev pub holds : Rule → Key → Bool
holds rule key = addresses_hold rule key && (ports_hold rule key && numbers_hold rule key)

-- the least index of a rule that holds
abbrev pub first_match_of : List Rule → Key → Option ℕ
first_match_of rules key = position (λ rule. holds rule key) rules
