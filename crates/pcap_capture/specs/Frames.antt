-- What a frame stands for.
use Rattle.std.specs.Prelude.{ℕ, ◌+◌, Bool, true, false, List, [], ◌∷◌, ◌++◌, take, drop}
use Rattle.pcap_capture.specs.declared.content.Content.{Content}
use Rattle.pcap_capture.specs.declared.content.Content.TheVariants.{Other, Record, Block}
use Rattle.pcap_capture.specs.declared.content.Place.{Place}
use Rattle.pcap_capture.specs.declared.heading.LinkType.{LinkType}
use Rattle.pcap_capture.specs.declared.heading.LinkType.TheVariants.{Unread}

-- The bytes of a record or a block of a capture: those before its packet's, the packet's as far as they were captured,
-- and those behind them; the packet's moment in nanoseconds; and what it holds. Without a packet it is all head.
pub record FrameValue : Type 0 where
  pub head : List ℕ
  pub moment : ℕ
  pub bytes : List ℕ
  pub tail : List ℕ
  pub content : Content

-- a frame of these bytes, by where its packet stands
abbrev pub frame_at : List ℕ → Place → FrameValue
frame_at own place = record {
  head = take place.front own;
  moment = place.moment;
  bytes = take place.size (drop place.front own);
  tail = drop (place.front + place.size) own;
  content = place.content;
}

-- whether there is a packet
abbrev pub has_packet : Content → Bool
has_packet Other = false
has_packet (Record link) = true
has_packet (Block link order) = true

-- what the packet's bytes begin with; nothing that is read, where there is none
abbrev pub link_in : Content → LinkType
link_in Other = Unread
link_in (Record link) = link
link_in (Block link order) = link

-- a frame's bytes
abbrev pub text_in : FrameValue → List ℕ
text_in frame = frame.head ++ (frame.bytes ++ frame.tail)

-- frames, one behind the other
abbrev pub text_of : List FrameValue → List ℕ
text_of [] = []
text_of (frame ∷ frames) = text_in frame ++ text_of frames
