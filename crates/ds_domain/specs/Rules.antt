-- Which packets a contract picks.
use Rattle.std.specs.Prelude.{ℕ, Bool, true, false, Option, Some, Result, Ok, option_map}
use Rattle.toml.specs.Data.{Members}
use Rattle.flow_classifier.specs.Parts.{PortRangeValue}
use Rattle.flow_classifier.specs.declared.prefix.Prefix.{Prefix}
use Rattle.flow_classifier.specs.declared.prefix.Prefix.TheVariants as prefixes
use Rattle.flow_classifier.specs.declared.rule.Rule.{Rule}
use Rattle.ds_domain_base.specs.Faults.{field_text}
use Rattle.ds_domain_base.specs.Versions.{has_ipv6}
use Rattle.ds_domain_base.specs.declared.fault.DomainFault.{DomainFault}
use Rattle.ds_domain_base.specs.declared.fault.Field.{Field}
use Rattle.ds_domain_base.specs.declared.fault.Field.TheVariants as fields
use Rattle.ds_domain_base.specs.declared.fault.Kind.TheVariants as kinds
use Rattle.ds_domain_base.specs.declared.parts.Version.{Version}
use Rattle.ds_domain_text.specs.declared.prefix.AddressPrefix.{AddressPrefix}
use Rattle.ds_domain_text.specs.declared.prefix.AddressPrefix.TheVariants as texts
use Rattle.ds_domain_text.specs.Steps.{◌>>=◌}
use Rattle.ds_domain_text.specs.Values.{optional, port_range_in, prefix_in}
use Rattle.ds_domain.specs.Keys.{fault_here, optional_number_at, refused_if, told}
use Rattle.ds_domain.specs.declared.place.Place.{Place}

abbrev pub as_prefix : AddressPrefix → Prefix
as_prefix (texts.V4 address count) = prefixes.V4 (record { address = address; length = count })
as_prefix (texts.V6 address count) = prefixes.V6 (record { address = address; length = count })

abbrev pub as_port_range : ℕ × ℕ → PortRangeValue
as_port_range ends = record { low = ends.0; high = ends.1 }

-- a prefix, of IPv6 only where the version has it, and a range of ports, each of which may be absent
unfoldable pub prefix_at : Version → Place → Field → Members → Result (Option Prefix) DomainFault
prefix_at version place field members =
    told place field (optional (prefix_in (has_ipv6 version)) (field_text field) members)
    >>= (λ prefix. Ok (option_map as_prefix prefix))

unfoldable pub port_range_at : Place → Field → Members → Result (Option PortRangeValue) DomainFault
port_range_at place field members =
    told place field (optional port_range_in (field_text field) members)
    >>= (λ ends. Ok (option_map as_port_range ends))

-- two addresses, one of each family
abbrev pub are_mixed : Option Prefix → Option Prefix → Bool
are_mixed (Some (prefixes.V4 source)) (Some (prefixes.V6 target)) = true
are_mixed (Some (prefixes.V6 source)) (Some (prefixes.V4 target)) = true
are_mixed _ _ = false

-- the rule of a contract in a version, key by key, and where it has two addresses, they are of one family; what is
-- absent holds of every packet
unfoldable pub rule_at : Version → Place → Members → Result Rule DomainFault
rule_at version place members = do
  source ← prefix_at version place fields.Src members
  target ← prefix_at version place fields.Dst members
  _ ← refused_if (are_mixed source target) (fault_here place kinds.Range fields.Dst)
  protocol ← optional_number_at place fields.Protocol 0 255 members
  source_ports ← port_range_at place fields.Sport members
  target_ports ← port_range_at place fields.Dport members
  dscp ← optional_number_at place fields.Dscp 0 63 members
  Ok (record {
    source = source;
    target = target;
    protocol = protocol;
    source_ports = source_ports;
    target_ports = target_ports;
    dscp = dscp;
  })
