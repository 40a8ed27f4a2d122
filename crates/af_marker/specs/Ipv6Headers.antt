-- The headers of an IPv6 packet (RFC 8200 sections 3 and 4) and its code point (RFC 2474 section 3).
use Rattle.std.specs.Prelude.{ℕ, zero, suc, ◌+◌, ◌*◌, ◌/◌, ◌%◌, Bool, not, nat_eq, nat_le, nat_lt, ◌&&◌, ◌||◌, if◌then◌else◌}
use Rattle.std.specs.Prelude.{List, [], length, take, drop, slice_index, slice_set, Option, None, Some, Result, Ok, Err}
use Rattle.byteorder.specs.Endian.{big_number}
use Rattle.af_marker.specs.declared.ipv4.HeaderFault.{HeaderFault}
use Rattle.af_marker.specs.declared.ipv4.HeaderFault.TheVariants.{NotIpv6, ShortHeader, BadLength}
use Rattle.af_marker.specs.declared.ipv6.Ipv6Header.{Ipv6Header}

-- the version, in the upper half of byte 0
abbrev pub ipv6_version : List ℕ → ℕ
ipv6_version bytes = slice_index bytes 0 / 16

-- the bytes behind the header, in bytes 4 and 5
abbrev pub payload_length : List ℕ → ℕ
payload_length bytes = big_number 2 (drop 4 bytes)

-- the bytes of the packet: the header has 40
abbrev pub ipv6_total : List ℕ → ℕ
ipv6_total bytes = 40 + payload_length bytes

-- the code point: the traffic class is the lower half of byte 0 and the upper half of byte 1, and the code point its
-- upper six bits
abbrev pub ipv6_dscp : List ℕ → ℕ
ipv6_dscp bytes = 4 * (slice_index bytes 0 % 16) + slice_index bytes 1 / 64

-- The first of the header's tests that fails: there is a byte, the version is 6, the header is there, there is a payload
-- length (it is 0 in a jumbogram, RFC 2675), and the packet has at most 65,535 bytes.
unfoldable pub ipv6_fault_of : List ℕ → Option HeaderFault
ipv6_fault_of bytes =
    if nat_eq (length bytes) 0 then Some ShortHeader
    else if not (nat_eq (ipv6_version bytes) 6) then Some NotIpv6
    else if nat_lt (length bytes) 40 then Some ShortHeader
    else if nat_eq (payload_length bytes) 0 || nat_lt 65535 (ipv6_total bytes) then Some BadLength
    else None

-- hop-by-hop options (0), routing (43), a fragment (44), options for the destination (60): RFC 8200 section 4.1
abbrev pub is_extension : ℕ → Bool
is_extension number = nat_eq number 0 || nat_eq number 43 || nat_eq number 44 || nat_eq number 60

-- the bytes of an extension header: a fragment's has 8, byte 1 of the others counts eights of bytes behind the first 8
abbrev pub extension_length : ℕ → List ℕ → ℕ
extension_length number bytes = if nat_eq number 44 then 8 else 8 * (slice_index bytes 1 + 1)

-- a fragment that is not the first: its place, the upper thirteen bits of bytes 2 and 3, is not 0 (RFC 8200 section 4.5)
abbrev pub is_later_fragment : ℕ → List ℕ → Bool
is_later_fragment number bytes = nat_eq number 44 && nat_le 8 (big_number 2 (drop 2 bytes))

-- The number of the last header, and the bytes from it on: what stands behind a header of this number, from these bytes
-- on. At most so many extension headers are stepped over, each of which has its first 8 bytes there. In a later fragment
-- the last header is not there.
unfoldable pub upper_of : ℕ → ℕ → List ℕ → ℕ × List ℕ
upper_of zero number bytes = (number, bytes)
upper_of (suc more) number bytes =
    if not (is_extension number && nat_le 8 (length bytes)) then (number, bytes)
    else if is_later_fragment number bytes then (slice_index bytes 0, [])
    else upper_of more (slice_index bytes 0) (drop (extension_length number bytes) bytes)

-- TCP and UDP have ports, in their first four bytes (RFC 768, RFC 9293 section 3.1)
abbrev pub upper_ports : ℕ × List ℕ → Option (ℕ × ℕ)
upper_ports upper =
    if (nat_eq upper.0 6 || nat_eq upper.0 17) && nat_le 4 (length upper.1) then
    Some (big_number 2 upper.1, big_number 2 (drop 2 upper.1))
    else None

-- the last header of a packet: the first that stands behind the 40 bytes has the number in byte 6, and they all stand
-- within the payload
abbrev pub packet_upper : List ℕ → ℕ × List ℕ
packet_upper bytes = upper_of 8 (slice_index bytes 6) (take (payload_length bytes) (drop 40 bytes))

-- what the headers say, by the last of them
abbrev pub ipv6_fields : ℕ × List ℕ → List ℕ → Ipv6Header
ipv6_fields upper bytes = record {
  total = ipv6_total bytes;
  dscp = ipv6_dscp bytes;
  protocol = upper.0;
  source = big_number 16 (drop 8 bytes);
  target = big_number 16 (drop 24 bytes);
  ports = upper_ports upper;
}

unfoldable pub ipv6_fields_of : List ℕ → Ipv6Header
ipv6_fields_of bytes = ipv6_fields (packet_upper bytes) bytes

-- a header, unless a test failed
abbrev pub ipv6_unless : Option HeaderFault → Ipv6Header → Result Ipv6Header HeaderFault
ipv6_unless None header = Ok header
ipv6_unless (Some fault) header = Err fault

-- the header of a packet, or the first test that it fails
unfoldable pub ipv6_header_of : List ℕ → Result Ipv6Header HeaderFault
ipv6_header_of bytes = ipv6_unless (ipv6_fault_of bytes) (ipv6_fields_of bytes)

-- a packet with another code point: the lower half of byte 0 and the upper two bits of byte 1 (RFC 2474 section 3)
unfoldable pub ipv6_marked : ℕ → List ℕ → List ℕ
ipv6_marked dscp bytes =
    slice_set (slice_set bytes 0 (16 * (slice_index bytes 0 / 16) + dscp / 4)) 1 (64 * (dscp % 4) + slice_index bytes 1 % 64)
