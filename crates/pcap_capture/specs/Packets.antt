-- Where the packet starts in the bytes of a frame, and of which version of the internet protocol it is.
use Rattle.std.specs.Prelude.{ℕ, zero, suc, ◌+◌, ◌/◌, ◌%◌, Bool, nat_eq, nat_lt, ◌||◌, if◌then◌else◌, List, length, drop}
use Rattle.std.specs.Prelude.{slice_index, Option, None, Some, option_map}
use Rattle.std.specs.Option.{option_or}
use Rattle.byteorder.specs.Endian.{big_number, little_number}
use Rattle.pcap_capture.specs.declared.heading.LinkType.{LinkType}
use Rattle.pcap_capture.specs.declared.heading.LinkType.TheVariants as links
use Rattle.pcap_capture.specs.declared.start.Family.{Family}
use Rattle.pcap_capture.specs.declared.start.Family.TheVariants as families
use Rattle.pcap_capture.specs.declared.start.PacketStart.{PacketStart}

-- a packet of a family that starts at a place
abbrev pub begins_at : Family → ℕ → PacketStart
begins_at family start = record { family = family; start = start }

-- the two bytes at a place
abbrev pub type_at : ℕ → List ℕ → ℕ
type_at place bytes = big_number 2 (drop place bytes)

-- The packet at a place, by the four bits of its version: 4 (RFC 791 section 3.1) or 6 (RFC 8200 section 3).
abbrev pub by_version : ℕ → List ℕ → Option PacketStart
by_version place bytes =
    if nat_lt place (length bytes) then
    (if nat_eq (slice_index bytes place / 16) 4 then Some (begins_at families.Ipv4 place)
    else if nat_eq (slice_index bytes place / 16) 6 then Some (begins_at families.Ipv6 place)
    else None)
    else
    None

-- A session of PPP over Ethernet: six bytes, then PPP's number of the protocol (RFC 2516 section 4, RFC 1661 section 2),
-- which is 0021 for IPv4 (RFC 1332 section 2) and 0057 for IPv6 (RFC 5072 section 2).
abbrev pub behind_session : ℕ → List ℕ → Option PacketStart
behind_session place bytes =
    if nat_lt (length bytes) (place + 8) then None
    else if nat_eq (type_at (place + 6) bytes) 0x0021 then Some (begins_at families.Ipv4 (place + 8))
    else if nat_eq (type_at (place + 6) bytes) 0x0057 then Some (begins_at families.Ipv6 (place + 8))
    else None

-- a label has four bytes, and the lowest bit of its third says whether it is the last (RFC 3032 section 2.1)
abbrev pub is_bottom : ℕ → List ℕ → Bool
is_bottom place bytes = nat_eq (slice_index bytes (place + 2) % 2) 1

-- behind the last of at most so many labels the version says which packet it is
unfoldable pub behind_labels : ℕ → ℕ → List ℕ → Option PacketStart
behind_labels zero place bytes = None
behind_labels (suc labels) place bytes =
    if nat_lt (length bytes) (place + 4) then None
    else if is_bottom place bytes then by_version (place + 4) bytes
    else behind_labels labels (place + 4) bytes

-- what stands at a place behind a type of Ethernet: IPv4, IPv6 (RFC 2464 section 3), a session, or labels (RFC 3032
-- section 5)
abbrev pub behind_type : ℕ → ℕ → List ℕ → Option PacketStart
behind_type kind place bytes =
    if nat_eq kind 0x0800 then Some (begins_at families.Ipv4 place)
    else if nat_eq kind 0x86dd then Some (begins_at families.Ipv6 place)
    else if nat_eq kind 0x8864 then behind_session place bytes
    else if nat_eq kind 0x8847 then behind_labels 2 place bytes
    else None

-- the types of tags: a customer's and a provider's (IEEE 802.1Q)
abbrev pub is_tag : ℕ → Bool
is_tag kind = nat_eq kind 0x8100 || nat_eq kind 0x88a8

-- a tag has four bytes, the last two of which are the next type; at most so many are stepped over
unfoldable pub behind_tags : ℕ → ℕ → ℕ → List ℕ → Option PacketStart
behind_tags zero kind place bytes = behind_type kind place bytes
behind_tags (suc tags) kind place bytes =
    if is_tag kind then
    (if nat_lt (length bytes) (place + 4) then None
    else behind_tags tags (type_at (place + 2) bytes) (place + 4) bytes)
    else
    behind_type kind place bytes

-- what stands behind a heading of so many bytes, in which the type stands at a place
abbrev pub behind_heading : ℕ → ℕ → List ℕ → Option PacketStart
behind_heading place size bytes =
    if nat_lt (length bytes) size then None else behind_tags 2 (type_at place bytes) size bytes

-- the numbers of families: IPv4's in all systems, IPv6's in three kinds of them
abbrev pub loopback_family : ℕ → Option Family
loopback_family number =
    if nat_eq number 2 then Some families.Ipv4
    else if nat_eq number 24 || nat_eq number 28 || nat_eq number 30 then Some families.Ipv6
    else None

-- the number has four bytes, in the order of the machine that captured
abbrev pub behind_family : List ℕ → Option PacketStart
behind_family bytes =
    if nat_lt (length bytes) 4 then None
    else
    option_map (λ family. begins_at family 4)
    (option_or (loopback_family (big_number 4 bytes)) (loopback_family (little_number 4 bytes)))

-- In an Ethernet header the type stands behind two addresses of six bytes; in a cooked heading of Linux it is its last
-- two bytes, and in one of the second version its first two.
abbrev pub packet_start : LinkType → List ℕ → Option PacketStart
packet_start links.Ethernet bytes = behind_heading 12 14 bytes
packet_start links.LinuxCooked bytes = behind_heading 14 16 bytes
packet_start links.LinuxCooked2 bytes = behind_heading 0 20 bytes
packet_start links.Loopback bytes = behind_family bytes
packet_start links.RawIp bytes = by_version 0 bytes
packet_start links.Ipv4 bytes = Some (begins_at families.Ipv4 0)
packet_start links.Ipv6 bytes = Some (begins_at families.Ipv6 0)
packet_start links.Unread bytes = None
