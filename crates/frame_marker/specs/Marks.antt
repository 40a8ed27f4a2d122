-- What marking needs of a frame that was seen.
use Rattle.std.specs.Prelude.{◌≡◌, ℕ, List, ◌++◌, take, drop, Option, None, Some, Result, Ok, Err}
use Rattle.af_marker.specs.Summaries.{summary_of}
use Rattle.af_marker.specs.declared.ipv4.HeaderFault.{HeaderFault}
use Rattle.af_marker.specs.declared.packet.Header.{Header}
use Rattle.pcap_capture.specs.Packets.{packet_start}
use Rattle.pcap_capture.specs.declared.heading.LinkType.{LinkType}
use Rattle.pcap_capture.specs.declared.start.PacketStart.{PacketStart}
use Rattle.frame_marker.specs.Frames.{marked_as, read_header}
use Rattle.frame_marker.specs.declared.mark.Mark.{Mark}

-- where a packet starts, of which family it is, and whether no checksum is wrong, where its header can be read
abbrev pub mark_of : PacketStart → Result Header HeaderFault → Option Mark
mark_of p (Ok header) =
    Some (record { start = p.start; family = p.family; verified = (summary_of header).verified })
mark_of p (Err fault) = None

abbrev pub mark_behind : Option PacketStart → List ℕ → Option Mark
mark_behind None bytes = None
mark_behind (Some p) bytes = mark_of p (read_header p.family (drop p.start bytes))

-- that of the packet of a frame, if it has a header that can be read
unfoldable pub mark_in : LinkType → List ℕ → Option Mark
mark_in link bytes = mark_behind (packet_start link bytes) bytes

-- what these bytes have, as a frame of some link
abbrev pub IsMarkOf : Option Mark → List ℕ → Type 0
IsMarkOf mark bytes = (link : LinkType) × (mark ≡ mark_in link bytes)

-- a frame whose packet is where its mark says, with a code point put in there
abbrev pub put_in : Mark → ℕ → List ℕ → List ℕ
put_in mark dscp bytes = take mark.start bytes ++ marked_as mark.family dscp (drop mark.start bytes)
