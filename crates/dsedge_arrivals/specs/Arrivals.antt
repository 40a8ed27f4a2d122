-- The packets that a capture would send, a line for each.
use Rattle.std.specs.Prelude.{◌≡◌, ℕ, ◌/◌, ◌==◌, ◌&&◌, nat_le, Bool, true, List, [], ◌∷◌, ◌++◌, max, Option, None, Some, if◌then◌else◌, codes, decimal, slice_get, unwrap_or}
use Rattle.moment_core.specs.declared.colour.Colour.{Colour}
use Rattle.moment_core.specs.declared.colour.Colour.TheVariants.{Green, Red, Yellow}
use Rattle.af_marker.specs.CodePoints.{colour_at}
use Rattle.af_marker.specs.Summaries.{summary_of}
use Rattle.af_marker.specs.declared.packet.Header.{Header}
use Rattle.af_marker.specs.declared.packet.Summary.{Summary}
use Rattle.ds_domain_base.specs.Sent.{came}
use Rattle.ds_domain_base.specs.declared.contract.Contract.{Contract}
use Rattle.ds_domain_base.specs.declared.parts.Version.{Version}
use Rattle.pcap_capture.specs.Frames.{FrameValue, link_in}
use Rattle.capture_reader.specs.Formats.{capture, opening_of}
use Rattle.pcap_capture.specs.declared.fault.PcapFault.{PcapFault}
use Rattle.capture_reader.specs.declared.opening.Opening.{Opening}
use Rattle.std.specs.Prelude.{Result, Ok, Err}
use Rattle.frame_marker.specs.Frames.{header_in}
use Rattle.frame_marker.specs.Ports.{PortRules, sight_in as sight_at_port}
use Rattle.frame_marker.specs.Sights.{sight_of_frame}
use Rattle.frame_marker.specs.declared.sight.Sight.{Sight}
use Rattle.frame_marker.specs.declared.sight.Sight.TheVariants.{Carried, Matched, Skipped, Unmatched}

-- the rules of the port at which packets arrive, or none; the contracts; the one whose packets are asked for alone; and
-- whether colours are told
pub record Filter : Type 0 where
  pub port : Option PortRules
  pub contracts : List Contract
  pub only : Option ℕ
  pub has_colours : Bool

-- a frame where each packet arrives whose header can be read
abbrev pub taken_by_all : Option Header → Sight
taken_by_all None = Skipped
taken_by_all (Some header) = Matched 0 (summary_of header)

-- what a frame is at a port, or without one
abbrev pub sight_in : Option PortRules → FrameValue → Sight
sight_in None f = taken_by_all (header_in (link_in f.content) f.bytes)
sight_in (Some rules) f = sight_at_port rules f

-- The filter of a port in a domain of a version, for the packets of all its contracts or of one.
pub record IsFilterAt (version : Version) (contracts : List Contract) (port : List ℕ) (only : Option ℕ)
    (has_colours : Bool) (filter : Filter) : Type 0 where
  pub sight : (f : FrameValue) → sight_in filter.port f ≡ sight_of_frame version contracts port f
  pub contracts_are : filter.contracts ≡ contracts
  pub only_is : filter.only ≡ only
  pub colours_are : filter.has_colours ≡ has_colours

-- whether packets of a contract's number are asked for: of all, or of one
abbrev pub is_asked : Option ℕ → ℕ → Bool
is_asked None flow = true
is_asked (Some only) flow = flow == only

-- The colour that a code point shows by itself: that of its drop precedence, where its upper three bits are a class of
-- assured forwarding (RFC 2597 section 6), else green.
abbrev pub colour_alone : ℕ → Colour
colour_alone dscp =
    if nat_le 1 (dscp / 8) && nat_le (dscp / 8) 4 then unwrap_or (colour_at (dscp / 8) dscp) Green else Green

abbrev pub colour_by : Option Contract → ℕ → Colour
colour_by None dscp = colour_alone dscp
colour_by (Some contract) dscp = came contract dscp

-- the colour that a packet comes in with: by its contract, or by itself where there is none
abbrev pub colour_in : List Contract → ℕ → ℕ → Colour
colour_in contracts flow dscp = colour_by (slice_get contracts flow) dscp

-- a colour behind a size
abbrev pub colour_behind : Colour → List ℕ
colour_behind Green = codes " g"
colour_behind Yellow = codes " y"
colour_behind Red = codes " r"

-- a packet that is sent at a moment: MOMENT SIZE, or MOMENT SIZE COLOUR
abbrev pub line_of : Filter → ℕ → Summary → ℕ → List ℕ
line_of filter flow header moment = decimal moment ++ codes " " ++ decimal header.total
    ++ (if filter.has_colours then colour_behind (colour_in filter.contracts flow header.dscp) else []) ++ codes "\n"

-- the line of a frame, if its packet arrives and is asked for
abbrev pub line_at : Filter → Sight → ℕ → List ℕ
line_at filter Carried moment = []
line_at filter Skipped moment = []
line_at filter Unmatched moment = []
line_at filter (Matched flow header) moment = if is_asked filter.only flow then line_of filter flow header moment else []

-- the lines of frames, each sent at the greatest stamp so far
unfoldable pub lines_from : Filter → ℕ → List FrameValue → List ℕ
lines_from filter newest [] = []
lines_from filter newest (f ∷ frames) =
    line_at filter (sight_in filter.port f) (max newest f.moment)
    ++ lines_from filter (max newest f.moment) frames

-- the greatest stamp behind frames
unfoldable pub newest_in : ℕ → List FrameValue → ℕ
newest_in newest [] = newest
newest_in newest (f ∷ frames) = newest_in (max newest f.moment) frames

abbrev pub lines_behind : Filter → Option (Result Opening PcapFault) → List FrameValue → List ℕ
lines_behind filter (Some (Ok opening)) frames = lines_from filter 0 frames
lines_behind filter (Some (Err fault)) frames = []
lines_behind filter None frames = []

-- the lines of frames that were read behind an opening; without one there are none
abbrev pub lines_told : Filter → Option Opening → List FrameValue → List ℕ
lines_told filter None frames = []
lines_told filter (Some opening) frames = lines_from filter 0 frames

-- the lines of the bytes of a capture: of all records that stand in it whole, before the first fault
abbrev pub lines_in : Filter → List ℕ → List ℕ
lines_in filter bytes = lines_behind filter (opening_of bytes) (capture bytes).frames
