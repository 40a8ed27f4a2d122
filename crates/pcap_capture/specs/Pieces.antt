-- Which frames stand in the text of a piece.
use Rattle.std.specs.Prelude.{◌≡◌, ℕ, ◌+◌, ◌-◌, ◌≤◌, List, [], ◌∷◌, length}
use Rattle.std.specs.List.{slice_range}
use Rattle.pcap_capture.specs.Frames.{FrameValue, frame_at}
use Rattle.pcap_capture.specs.declared.content.Place.{Place}
use Rattle.pcap_capture.specs.declared.entry.Entry.{Entry}

-- the frames of a text from a place on: each starts where the one before ends
abbrev pub frames_between : List ℕ → ℕ → List Entry → List FrameValue
frames_between text start [] = []
frames_between text start (entry ∷ entries) =
    frame_at (slice_range text start entry.end) entry.place ∷ frames_between text entry.end entries

-- where the packet of a frame of so many bytes may stand: behind twelve bytes at least, and in the frame
abbrev pub IsPlaced : Place → ℕ → Type 0
IsPlaced place size = (12 ≤ place.front) × (place.front + place.size ≤ size) × (size ≤ 16777216)

-- The frames of a text from a place on come to an end, and the packet of each stands in it.
abbrev pub AreCut : List ℕ → ℕ → List Entry → ℕ → Type 0
AreCut text start [] end = (start ≡ end) × (end ≤ length text)
AreCut text start (entry ∷ entries) end =
    IsPlaced entry.place (entry.end - start) × AreCut text entry.end entries end
