-- Frames of one piece that are handed out, one behind the other.
use Rattle.std.specs.Prelude.{◌≡◌, ℕ, ◌+◌, ◌<◌, ◌≤◌, List, [], ◌∷◌, ◌++◌, length, take, drop, map, flat_map, zip, All}
use Rattle.pcap_capture.specs.Frames.{FrameValue}
use Rattle.ds_conditioner.specs.Fates.{IsFateOf, fate_text}
use Rattle.ds_conditioner.specs.Helds.{HeldValue}
use Rattle.ds_conditioner.specs.declared.fate.Fate.{Fate}

-- the text of the frames that are handed out so far, and the frames that can be handed out behind them
pub record StretchValue : Type 0 where
  pub text : List ℕ
  pub coming : List FrameValue

-- the frames of a piece from one place on, up to another
abbrev pub between : ℕ → ℕ → List FrameValue → List FrameValue
between from until frames = drop from (take until frames)

-- the text of the frames at the front, by what becomes of each
abbrev pub fated : List FrameValue → List Fate → List ℕ
fated frames fates = flat_map (λ it. fate_text it.0 it.1) (zip frames fates)

-- What becomes of frames between two places is known of those at the front; there is room for that of all.
pub record AreFated (frames : List FrameValue) (from until : ℕ) (fates : List Fate) (room : ℕ) : Type 0 where
  pub there : from + length fates ≤ until
  pub last : until ≤ length frames
  pub fits : until ≤ from + room
  pub marks : All (λ it. IsFateOf it.0 it.1) (zip (between from until frames) fates)

-- this can become of the frame that comes next
abbrev pub CanBefall : Fate → List FrameValue → Type 0
CanBefall fate coming =
    (frame : FrameValue) (others : List FrameValue) → coming ≡ frame ∷ others → IsFateOf frame fate

-- this becomes of the frame that comes next
abbrev pub IsFated : Fate → StretchValue → StretchValue → Type 0
IsFated fate old new =
    (frame : FrameValue) × (old.coming ≡ frame ∷ new.coming) × (new.text ≡ old.text ++ fate_text frame fate)

-- the frames that are held
abbrev pub frames_held : List HeldValue → List FrameValue
frames_held held = map (λ h. h.frame.frame) held

-- the frames that come next are the first ones that are held
abbrev pub AreNext : List FrameValue → List HeldValue → Type 0
AreNext coming held = (others : List FrameValue) × (frames_held held ≡ coming ++ others)

-- nothing is handed out yet, and the first frames that are held come next
abbrev pub IsBegun : List HeldValue → StretchValue → Type 0
IsBegun held stretch = (stretch.text ≡ []) × (0 < length stretch.coming) × AreNext stretch.coming held

-- the texts of stretches, one behind the other
abbrev pub texts : List StretchValue → List ℕ
texts [] = []
texts (stretch ∷ stretches) = stretch.text ++ texts stretches
