-- Frames that were read at once, with what was seen of them.
use Rattle.std.specs.Prelude.{Bool, List}
use Rattle.pcap_capture.specs.Frames.{FrameValue}
use Rattle.frame_marker.specs.declared.sight.Seen.{Seen}

-- the frames, whether they were seen, and what was seen of each
pub record LotValue : Type 0 where
  pub frames : List FrameValue
  pub is_seen : Bool
  pub seen : List Seen
