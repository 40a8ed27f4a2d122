-- The bytes of a marked capture.
use Rattle.std.specs.Prelude.{ℕ, suc, nat_eq, Bool, false, if◌then◌else◌, List, [], ◌∷◌, ◌++◌, Option, None, Some}
use Rattle.moment_core.specs.declared.colour.Colour.{Colour}
use Rattle.moment_core.specs.Colours.{is_red}
use Rattle.af_marker.specs.CodePoints.{code_point}
use Rattle.pcap_capture.specs.Frames.{FrameValue, link_in, text_in}
use Rattle.pcapng_capture.specs.Marks.{marked_text}
use Rattle.ds_domain_base.specs.declared.contract.Contract.{Contract}
use Rattle.ds_checker.specs.Acceptance.{Table}
use Rattle.meter_fabric_base.specs.Grounds.{contract_of, ground_of}
use Rattle.frame_marker.specs.Frames.{marked_frame}
use Rattle.frame_marker.specs.Marks.{mark_in}
use Rattle.frame_marker.specs.declared.mark.Mark.{Mark}
use Rattle.ds_conductor_base.specs.declared.sent.Sent.{Sent}
use Rattle.ds_conditioner.specs.declared.rule.RedRule.{RedRule}
use Rattle.ds_conditioner.specs.declared.rule.RedRule.TheVariants.{Drop, Keep}

-- whether a frame of a colour is left out
abbrev pub is_dropped : RedRule → Colour → Bool
is_dropped Keep colour = false
is_dropped Drop colour = is_red colour

-- a record as it came, with all its bytes
abbrev pub plain_text : FrameValue → List ℕ
plain_text f = text_in f

-- a record whose packet has a code point: as it came where no header can be read
abbrev pub text_with : FrameValue → ℕ → Option Mark → List ℕ
text_with f dscp None = plain_text f
text_with f dscp (Some mark) = marked_text f (marked_frame (link_in f.content) dscp f.bytes)

-- a record whose packet is marked with the code point of a colour in its contract's class (RFC 2597 section 6)
abbrev pub text_in_class : FrameValue → Colour → Option Contract → List ℕ
text_in_class f colour None = plain_text f
text_in_class f colour (Some c) =
    text_with f (code_point c.class colour) (mark_in (link_in f.content) f.bytes)

-- a marked record, unless it is left out
abbrev pub coloured_text : Table → RedRule → FrameValue → Sent → Colour → List ℕ
coloured_text t red f s colour =
    if is_dropped red colour then [] else text_in_class f colour (contract_of (ground_of t) s.flow)

-- the packet that the frame of a number sent, with its colour: the next one, if it has that number
abbrev pub packet_at : ℕ → List (Sent × Colour) → Option (Sent × Colour)
packet_at number [] = None
packet_at number ((s, colour) ∷ coloured) = if nat_eq s.packet number then Some (s, colour) else None

-- the record of a frame that this packet was sent from, if one was
abbrev pub record_text : Table → RedRule → FrameValue → Option (Sent × Colour) → List ℕ
record_text t red f None = plain_text f
record_text t red f (Some (s, colour)) = coloured_text t red f s colour

-- The records of frames, of which the first has this number: those that a packet was sent from are marked with its
-- colour, the others are as they came.
unfoldable pub text_from : Table → RedRule → ℕ → List FrameValue → List (Sent × Colour) → List ℕ
text_from t red number [] coloured = []
text_from t red number (f ∷ frames) [] = plain_text f ++ text_from t red (suc number) frames []
text_from t red number (f ∷ frames) ((s, colour) ∷ coloured) =
    if nat_eq s.packet number then
    coloured_text t red f s colour ++ text_from t red (suc number) frames coloured
    else
    plain_text f ++ text_from t red (suc number) frames ((s, colour) ∷ coloured)
