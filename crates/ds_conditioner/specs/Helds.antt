-- Frames that are held until the colours of their packets are decided.
use Rattle.std.specs.Prelude.{◌≡◌, List, [], ◌∷◌, ◌++◌, Option}
use Rattle.pcap_capture.specs.Frames.{FrameValue}
use Rattle.frame_marker.specs.Marks.{IsMarkOf}
use Rattle.frame_marker.specs.declared.mark.Mark.{Mark}
use Rattle.ds_conductor_base.specs.declared.sent.Sent.{Sent}
use Rattle.ds_conditioner.specs.Seens.{SeenValue}

-- a frame that is held, with the packet that it sent, if a contract took it
pub record HeldValue : Type 0 where
  pub frame : SeenValue
  pub packet : Option Sent

-- The frames that are held, the oldest first, and those behind them that are there and of which nothing is noted yet.
pub record HeldFramesValue : Type 0 where
  pub held : List HeldValue
  pub ahead : List FrameValue

-- this frame stands first
abbrev pub IsFirst : List FrameValue → FrameValue → Type 0
IsFirst frames first = (others : List FrameValue) × (frames ≡ first ∷ others)

-- this is the packet of the frame that stands first, if it sent one
abbrev pub IsFirstPacket : List HeldValue → Option Sent → Type 0
IsFirstPacket held packet =
    (first : HeldValue) × (others : List HeldValue) × (held ≡ first ∷ others) × (packet ≡ first.packet)

-- this is the frame that stands first
abbrev pub IsFirstFrame : List HeldValue → SeenValue → Type 0
IsFirstFrame held frame =
    (first : HeldValue) × (others : List HeldValue) × (held ≡ first ∷ others) × (frame ≡ first.frame)

-- this is what marking the frame that stands first needs
abbrev pub IsFirstMark : List HeldValue → Option Mark → Type 0
IsFirstMark held mark =
    (first : HeldValue) × (others : List HeldValue) × (held ≡ first ∷ others) × (mark ≡ first.frame.mark)
    × IsMarkOf mark first.frame.frame.bytes

-- the frame that stands first is let go
abbrev pub IsLetGo : HeldFramesValue → HeldFramesValue → Type 0
IsLetGo old new = (first : HeldValue) × (old.held ≡ first ∷ new.held) × (new.ahead ≡ old.ahead)

-- this is a mark of the frame that stands first
abbrev pub CanBeNoted : Option Mark → List FrameValue → Type 0
CanBeNoted mark ahead =
    (frame : FrameValue) (others : List FrameValue) → ahead ≡ frame ∷ others → IsMarkOf mark frame.bytes

-- the first frame ahead is held, with this noted of it
abbrev pub IsNoted : Option Mark → Option Sent → HeldFramesValue → HeldFramesValue → Type 0
IsNoted mark packet old new =
    (frame : FrameValue) × (old.ahead ≡ frame ∷ new.ahead)
    × (new.held ≡ old.held ++ record { frame = record { frame = frame; mark = mark }; packet = packet } ∷ [])
