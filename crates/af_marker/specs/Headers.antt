-- The IPv4 header (RFC 791 section 3.1) and its code point (RFC 2474 section 3).
use Rattle.std.specs.Prelude.{ℕ, ◌+◌, ◌*◌, ◌/◌, ◌%◌, Bool, not, nat_eq, nat_le, nat_lt, ◌&&◌, ◌||◌, if◌then◌else◌, List}
use Rattle.std.specs.Prelude.{length, take, drop, slice_index, Option, None, Some, Result, Ok, Err}
use Rattle.byteorder.specs.Endian.{big_number}
use Rattle.af_marker.specs.declared.ipv4.Ipv4Header.{Ipv4Header}
use Rattle.af_marker.specs.declared.ipv4.HeaderFault.{HeaderFault}
use Rattle.af_marker.specs.declared.ipv4.HeaderFault.TheVariants.{NotIpv4, ShortHeader, BadLength}
use Rattle.af_marker.specs.Fields.{flags_and_offset, options, protocol_field, source_address, target_address}
use Rattle.af_marker.specs.Fields.{total_length_field, type_of_service, version_and_length}
use Rattle.af_marker.specs.Checksums.{ones_sum, words}

-- the version, in the upper half of its byte
abbrev pub version : List ℕ → ℕ
version bytes = slice_index bytes version_and_length / 16

-- the length of the header in bytes: the lower half of that byte counts words of four
abbrev pub header_length : List ℕ → ℕ
header_length bytes = 4 * (slice_index bytes version_and_length % 16)

-- the length of header and data in bytes
abbrev pub total_length : List ℕ → ℕ
total_length bytes = big_number 2 (drop total_length_field bytes)

-- the place of a fragment, in eights of bytes: the lower thirteen bits of its field
abbrev pub fragment_offset : List ℕ → ℕ
fragment_offset bytes = big_number 2 (drop flags_and_offset bytes) % 8192

-- The first of the header's tests that fails: there is a byte, the version is 4, the fixed part is there, the header
-- is not shorter than that, it is there whole, and the packet is not shorter than it.
unfoldable pub fault_of : List ℕ → Option HeaderFault
fault_of bytes =
    if nat_eq (length bytes) 0 then Some ShortHeader
    else if not (nat_eq (version bytes) 4) then Some NotIpv4
    else if nat_lt (length bytes) options then Some ShortHeader
    else if nat_lt (header_length bytes) options then Some BadLength
    else if nat_lt (length bytes) (header_length bytes) then Some ShortHeader
    else if nat_lt (total_length bytes) (header_length bytes) then Some BadLength
    else None

-- TCP and UDP have ports, in the four bytes after the header (RFC 768, RFC 9293 section 3.1). They are read where this
-- is no later fragment, and these bytes are there and within the packet.
abbrev pub has_ports : List ℕ → Bool
has_ports bytes =
    (nat_eq (slice_index bytes protocol_field) 6 || nat_eq (slice_index bytes protocol_field) 17)
    && nat_eq (fragment_offset bytes) 0
    && nat_le (header_length bytes + 4) (length bytes)
    && nat_le (header_length bytes + 4) (total_length bytes)

unfoldable pub ports_of : List ℕ → Option (ℕ × ℕ)
ports_of bytes =
    if has_ports bytes then
    Some (big_number 2 (drop (header_length bytes) bytes), big_number 2 (drop (header_length bytes + 2) bytes))
    else None

-- the words of the header, its checksum among them, sum to all ones
abbrev pub is_verified : List ℕ → Bool
is_verified bytes = nat_eq (ones_sum (words (take (header_length bytes) bytes))) 65535

-- what a header says
unfoldable pub fields_of : List ℕ → Ipv4Header
fields_of bytes = record {
  length = header_length bytes;
  total = total_length bytes;
  dscp = slice_index bytes type_of_service / 4;
  protocol = slice_index bytes protocol_field;
  offset = fragment_offset bytes;
  source = big_number 4 (drop source_address bytes);
  target = big_number 4 (drop target_address bytes);
  ports = ports_of bytes;
  verified = is_verified bytes;
}

-- a header, unless a test failed
abbrev pub unless : Option HeaderFault → Ipv4Header → Result Ipv4Header HeaderFault
unless None header = Ok header
unless (Some fault) header = Err fault

-- the header of a packet, or the first test that it fails
unfoldable pub header_of : List ℕ → Result Ipv4Header HeaderFault
header_of bytes = unless (fault_of bytes) (fields_of bytes)
