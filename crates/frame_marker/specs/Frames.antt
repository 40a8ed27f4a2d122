-- The packet in a frame, and the frame with that packet marked.
use Rattle.std.specs.Prelude.{ℕ, List, ◌++◌, take, drop, Option, None, Some, Result, Ok, Err}
use Rattle.af_marker.specs.declared.ipv4.HeaderFault.{HeaderFault}
use Rattle.af_marker.specs.declared.ipv4.Ipv4Header.{Ipv4Header}
use Rattle.af_marker.specs.declared.ipv6.Ipv6Header.{Ipv6Header}
use Rattle.af_marker.specs.declared.packet.Header.{Header}
use Rattle.af_marker.specs.declared.packet.Header.TheVariants.{V4, V6}
use Rattle.af_marker.specs.Headers.{header_of}
use Rattle.af_marker.specs.Ipv6Headers.{ipv6_header_of, ipv6_marked}
use Rattle.af_marker.specs.Marks.{marked}
use Rattle.pcap_capture.specs.Packets.{packet_start}
use Rattle.pcap_capture.specs.declared.heading.LinkType.{LinkType}
use Rattle.pcap_capture.specs.declared.start.Family.{Family}
use Rattle.pcap_capture.specs.declared.start.Family.TheVariants.{Ipv4, Ipv6}
use Rattle.pcap_capture.specs.declared.start.PacketStart.{PacketStart}

abbrev pub as_ipv4 : Result Ipv4Header HeaderFault → Result Header HeaderFault
as_ipv4 (Ok header) = Ok (V4 header)
as_ipv4 (Err fault) = Err fault

abbrev pub as_ipv6 : Result Ipv6Header HeaderFault → Result Header HeaderFault
as_ipv6 (Ok header) = Ok (V6 header)
as_ipv6 (Err fault) = Err fault

-- the header of a packet of a family (RFC 791 section 3.1, RFC 8200 section 3)
abbrev pub read_header : Family → List ℕ → Result Header HeaderFault
read_header Ipv4 packet = as_ipv4 (header_of packet)
read_header Ipv6 packet = as_ipv6 (ipv6_header_of packet)

-- a header, if it could be read
abbrev pub read_whole : Result Header HeaderFault → Option Header
read_whole (Ok header) = Some header
read_whole (Err fault) = None

abbrev pub header_behind : Option PacketStart → List ℕ → Option Header
header_behind None bytes = None
header_behind (Some p) bytes = read_whole (read_header p.family (drop p.start bytes))

-- the header of the packet in a frame, if the frame has one that can be read
unfoldable pub header_in : LinkType → List ℕ → Option Header
header_in link bytes = header_behind (packet_start link bytes) bytes

-- a packet of a family with another code point (RFC 2474 section 3)
abbrev pub marked_as : Family → ℕ → List ℕ → List ℕ
marked_as Ipv4 dscp packet = marked dscp packet
marked_as Ipv6 dscp packet = ipv6_marked dscp packet

-- a packet with another code point, where its header can be read
abbrev pub marked_by : Family → Result Header HeaderFault → ℕ → List ℕ → List ℕ
marked_by family (Ok header) dscp packet = marked_as family dscp packet
marked_by family (Err fault) dscp packet = packet

abbrev pub marked_behind : Option PacketStart → ℕ → List ℕ → List ℕ
marked_behind None dscp bytes = bytes
marked_behind (Some p) dscp bytes =
    take p.start bytes
    ++ marked_by p.family (read_header p.family (drop p.start bytes)) dscp (drop p.start bytes)

-- a frame whose packet has another code point; what stands before the packet stays as it is
unfoldable pub marked_frame : LinkType → ℕ → List ℕ → List ℕ
marked_frame link dscp bytes = marked_behind (packet_start link bytes) dscp bytes
