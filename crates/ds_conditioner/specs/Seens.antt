-- Frames that were seen, with what marking them needs.
use Rattle.std.specs.Prelude.{◌≡◌, Option}
use Rattle.pcap_capture.specs.Frames.{FrameValue, link_in}
use Rattle.pcap_capture.specs.declared.heading.LinkType.{LinkType}
use Rattle.frame_marker.specs.Marks.{mark_in}
use Rattle.frame_marker.specs.declared.mark.Mark.{Mark}

pub record SeenValue : Type 0 where
  pub frame : FrameValue
  pub mark : Option Mark

-- a frame as it is seen, by what its bytes begin with
abbrev pub seen_at : FrameValue → SeenValue
seen_at f = record { frame = f; mark = mark_in (link_in f.content) f.bytes }

-- what marking it at a link needs is there
abbrev pub IsSeenAt : LinkType → SeenValue → Type 0
IsSeenAt link s = s.mark ≡ mark_in link s.frame.bytes

-- and by what its bytes begin with
abbrev pub IsSeen : SeenValue → Type 0
IsSeen s = IsSeenAt (link_in s.frame.content) s
