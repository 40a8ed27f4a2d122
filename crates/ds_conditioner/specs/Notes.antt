-- What is noted of the frames of a piece.
use Rattle.std.specs.Prelude.{ℕ, ◌≤◌, List, [], ◌∷◌, length, All, Option, None, Some}
use Rattle.std.specs.Arc.{arc_value}
use Rattle.std.specs.declared.sync.Arc.{Arc}
use Rattle.pcap_capture.specs.Frames.{FrameValue}
use Rattle.frame_marker.specs.Marks.{IsMarkOf}
use Rattle.ds_conditioner.specs.Helds.{HeldValue}
use Rattle.ds_conditioner.specs.declared.held_piece.Note.{Note}

-- the frames at the front of a piece of which something is noted, each with that
abbrev pub noted : List FrameValue → List Note → List HeldValue
noted frames [] = []
noted [] (n ∷ notes) = []
noted (f ∷ frames) (n ∷ notes) =
    record { frame = record { frame = f; mark = n.mark }; packet = n.packet } ∷ noted frames notes

-- the frames of a piece that is shared, if there is one
abbrev pub shared_frames : {Z : Type 0} → Option (Arc (List FrameValue) Z) → List FrameValue
shared_frames None = []
shared_frames (Some piece) = arc_value piece

-- No more is noted than there are frames, nor let go than is noted; there is room for the notes of all, and the marks are
-- those of their frames.
pub record AreNoted (frames : List FrameValue) (notes : List Note) (next room : ℕ) : Type 0 where
  pub gone : next ≤ length notes
  pub there : length notes ≤ length frames
  pub fits : length frames ≤ room
  pub marks : All (λ h. IsMarkOf h.frame.mark h.frame.frame.bytes) (noted frames notes)
