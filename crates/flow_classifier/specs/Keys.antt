-- What rules ask of a packet, by its header.
use Rattle.std.specs.Prelude.{Bool, true, false}
use Rattle.af_marker.specs.declared.ipv4.Ipv4Header.{Ipv4Header}
use Rattle.af_marker.specs.declared.ipv6.Ipv6Header.{Ipv6Header}
use Rattle.af_marker.specs.declared.packet.Header.{Header}
use Rattle.af_marker.specs.declared.packet.Header.TheVariants as headers
use Rattle.flow_classifier.specs.declared.key.Address.{Address}
use Rattle.flow_classifier.specs.declared.key.Address.TheVariants as addresses
use Rattle.flow_classifier.specs.declared.key.Addresses.{Addresses}
use Rattle.flow_classifier.specs.declared.key.Addresses.TheVariants as pairs
use Rattle.flow_classifier.specs.declared.key.Key.{Key}

-- where a packet comes from, and where it goes to
abbrev pub source_of : Addresses → Address
source_of (pairs.V4 source target) = addresses.V4 source
source_of (pairs.V6 source target) = addresses.V6 source

abbrev pub target_of : Addresses → Address
target_of (pairs.V4 source target) = addresses.V4 target
target_of (pairs.V6 source target) = addresses.V6 target

-- the addresses are those of IPv4
abbrev pub are_ipv4 : Addresses → Bool
are_ipv4 (pairs.V4 source target) = true
are_ipv4 (pairs.V6 source target) = false

-- a packet with a header of IPv4, and one with a header of IPv6
abbrev pub ipv4_key : Ipv4Header → Key
ipv4_key h =
    record { addresses = pairs.V4 h.source h.target; protocol = h.protocol; ports = h.ports; dscp = h.dscp }

abbrev pub ipv6_key : Ipv6Header → Key
ipv6_key h =
    record { addresses = pairs.V6 h.source h.target; protocol = h.protocol; ports = h.ports; dscp = h.dscp }

abbrev pub key_of : Header → Key
key_of (headers.V4 h) = ipv4_key h
key_of (headers.V6 h) = ipv6_key h
