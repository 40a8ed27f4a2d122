-- What the rules of a port's contracts say of a frame.
use Rattle.std.specs.Prelude.{ℕ, Bool, if◌then◌else◌, List, [], Option, None, Some}
use Rattle.std.specs.List.{slice_index_or}
use Rattle.af_marker.specs.declared.packet.Header.{Header}
use Rattle.flow_classifier.specs.Families.{TablesValue, rules_for}
use Rattle.flow_classifier.specs.Keys.{key_of}
use Rattle.flow_classifier.specs.Tables.{first_flow_of}
use Rattle.pcap_capture.specs.Frames.{FrameValue, has_packet, link_in}
use Rattle.pcap_capture.specs.declared.content.Content.TheVariants.{Other}
use Rattle.pcap_capture.specs.declared.heading.LinkType.{LinkType}
use Rattle.frame_marker.specs.Frames.{header_in}
use Rattle.frame_marker.specs.Marks.{mark_in}
use Rattle.frame_marker.specs.Sights.{heeded, sight_for}
use Rattle.frame_marker.specs.declared.sight.Seen.{Seen}
use Rattle.frame_marker.specs.declared.sight.Sight.{Sight}
use Rattle.frame_marker.specs.declared.sight.Sight.TheVariants.{Carried, Skipped}

-- whether packets of IPv6 are seen, and the rules of a port's contracts, each with the number of its contract
pub record PortRules : Type 0 where
  pub has_ipv6 : Bool
  pub rules : TablesValue

abbrev pub sight_through : TablesValue → Option Header → Sight
sight_through rules None = Skipped
sight_through rules (Some header) =
    sight_for header (first_flow_of (rules_for rules (key_of header).addresses) (key_of header))

-- what a frame is by these rules
unfoldable pub sight_at : PortRules → LinkType → List ℕ → Sight
sight_at port link bytes = sight_through port.rules (heeded port.has_ipv6 (header_in link bytes))

-- and where it holds no packet, that
abbrev pub sight_in : PortRules → FrameValue → Sight
sight_in port f = if has_packet f.content then sight_at port (link_in f.content) f.bytes else Carried

-- what is seen of a frame by these rules: what it is, and what marking it needs
abbrev pub seen_by : PortRules → FrameValue → Seen
seen_by port f = record { sight = sight_in port f; mark = mark_in (link_in f.content) f.bytes }

-- a frame without bytes
abbrev pub no_frame : FrameValue
no_frame = record { head = []; moment = 0; bytes = []; tail = []; content = Other }

-- what is seen of the frame at a place
abbrev pub seen_there : PortRules → List FrameValue → ℕ → Seen
seen_there port frames place = seen_by port (slice_index_or frames place no_frame)
