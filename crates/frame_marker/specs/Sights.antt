-- What a frame is at a port: which contract of the port it is of, if it is of any.
use Rattle.std.specs.Prelude.{ℕ, Bool, ◌&&◌, if◌then◌else◌, List, take, position, Option, None, Some, bytes_eq}
use Rattle.af_marker.specs.Summaries.{summary_of}
use Rattle.af_marker.specs.declared.packet.Header.{Header}
use Rattle.af_marker.specs.declared.packet.Header.TheVariants.{V4, V6}
use Rattle.af_marker.specs.declared.packet.Summary.{Summary}
use Rattle.flow_classifier.specs.Keys.{key_of}
use Rattle.flow_classifier.specs.Matching.{holds}
use Rattle.flow_classifier.specs.declared.key.Key.{Key}
use Rattle.ds_domain_base.specs.Versions.{has_ipv6}
use Rattle.ds_domain_base.specs.declared.contract.Contract.{Contract}
use Rattle.ds_domain_base.specs.declared.parts.Version.{Version}
use Rattle.pcap_capture.specs.Frames.{FrameValue, has_packet, link_in}
use Rattle.pcap_capture.specs.declared.heading.LinkType.{LinkType}
use Rattle.frame_marker.specs.Frames.{header_in}
use Rattle.frame_marker.specs.declared.sight.Sight.{Sight}
use Rattle.frame_marker.specs.declared.sight.Sight.TheVariants.{Carried, Matched, Skipped, Unmatched}

-- a contract of the port whose rule holds of a packet
abbrev pub takes : List ℕ → Key → Contract → Bool
takes port key c = bytes_eq port c.port && holds c.rule key

-- The number of the first contract of a port whose rule holds of a packet. Only the first 2^32 - 1024 contracts have
-- packets.
unfoldable pub flow_of : List Contract → List ℕ → Key → Option ℕ
flow_of contracts port key = position (takes port key) (take 4294966272 contracts)

abbrev pub sight_with : Summary → Option ℕ → Sight
sight_with header None = Unmatched
sight_with header (Some flow) = Matched flow header

abbrev pub sight_for : Header → Option ℕ → Sight
sight_for header found = sight_with (summary_of header) found

abbrev pub sight_by : List Contract → List ℕ → Option Header → Sight
sight_by contracts port None = Skipped
sight_by contracts port (Some header) = sight_for header (flow_of contracts port (key_of header))

-- a header that is seen: one of IPv6 only where they are
abbrev pub heeded : Bool → Option Header → Option Header
heeded with_ipv6 None = None
heeded with_ipv6 (Some (V4 header)) = Some (V4 header)
heeded with_ipv6 (Some (V6 header)) = if with_ipv6 then Some (V6 header) else None

-- What a frame is at a port of a domain of a version: no header can be read, or it is one of IPv6 and the version has
-- none, or no contract of the port takes it, or the first that does.
unfoldable pub sight_of : Version → List Contract → List ℕ → LinkType → List ℕ → Sight
sight_of version contracts port link bytes = sight_by contracts port (heeded (has_ipv6 version) (header_in link bytes))

-- what a frame is there: where it holds no packet, that
abbrev pub sight_of_frame : Version → List Contract → List ℕ → FrameValue → Sight
sight_of_frame version contracts port f =
    if has_packet f.content then sight_of version contracts port (link_in f.content) f.bytes else Carried
