-- Frames that are handed out, as a text.
use Rattle.std.specs.Prelude.{◌≡◌, ℕ, Bool, true, List, ◌++◌, Result, MatchResult}
use Rattle.pcap_capture.specs.Frames.{FrameValue}
use Rattle.ds_conditioner.specs.Conditionings.{IsConditioned}
use Rattle.ds_conditioner.specs.declared.conditioner.Conditioner.{Conditioner}
use Rattle.ds_conditioner.specs.declared.port.Port.{Port}

-- What handing out frames comes to that are decided: their text is added to another, or there was no memory for all of
-- it.
abbrev pub IsHandedOut : {T E : Type 0} → Result T E → Port → Conditioner → Conditioner → List ℕ → List ℕ → Type 0
IsHandedOut result p old new out left =
    (more : Bool) (frames : List FrameValue) (text : List ℕ) → IsConditioned p more frames text old → MatchResult result
    (λ _. (own : List ℕ) × (left ≡ out ++ own) × IsConditioned p more frames (text ++ own) new)
    (λ _. (own : List ℕ) × IsConditioned p more frames (text ++ own) new)

-- and where there is memory for all of it
abbrev pub AreHandedOut : Port → Conditioner → Conditioner → List ℕ → List ℕ → Type 0
AreHandedOut p old new out left =
    (more : Bool) (frames : List FrameValue) (text : List ℕ) → IsConditioned p more frames text old
    → (own : List ℕ) × (left ≡ out ++ own) × IsConditioned p more frames (text ++ own) new

-- Frames were taken in behind others, and this is the text that is handed out behind that of those.
abbrev pub IsPassedWhole : Port → Conditioner → Conditioner → List FrameValue → List ℕ → Type 0
IsPassedWhole p old new frames text =
    (before : List FrameValue) (shown : List ℕ) → IsConditioned p true before shown old
    → IsConditioned p true (before ++ frames) (shown ++ text) new

-- There was no memory for all of it: a front of the frames was taken in, and some text was lost behind this.
abbrev pub IsPassedInPart : Port → Conditioner → Conditioner → List FrameValue → List ℕ → Type 0
IsPassedInPart p old new frames text =
    (before : List FrameValue) (shown : List ℕ) → IsConditioned p true before shown old
    → (front : List FrameValue) × (others : List FrameValue) × (lost : List ℕ) × (frames ≡ front ++ others)
    × IsConditioned p true (before ++ front) ((shown ++ text) ++ lost) new
