-- What a piece that a device gives makes of a capture.
use Rattle.std.specs.Prelude.{◌≡◌, ◌≢◌, ◌⊎◌, ◌<◌, ◌≤◌, ℕ, List, [], ◌++◌, length, Option, None, Some, Result, Ok, IfErr, IfOk, IsErr, MatchResult}
use Rattle.pcap_capture.specs.Counts.{IsOfReads}
use Rattle.pcap_capture.specs.Frames.{FrameValue}
use Rattle.pcap_capture.specs.Takings.{is_read_fault}
use Rattle.pcap_capture.specs.declared.fault.PcapFault.{PcapFault}
use Rattle.pcap_capture.specs.declared.fault.PcapFault.TheVariants.{ReadFault}
use Rattle.pcap_capture.specs.declared.stage.Stage.TheVariants as stages
use Rattle.capture_reader.specs.Formats.{CaptureState, IsSoFar, Reading, Stops, Unopened, broken, capture, classic_stage, ending, newer_stage, prepend, reading}
use Rattle.capture_reader.specs.declared.capture.Source.{Source}
use Rattle.capture_reader.specs.declared.capture.Source.TheVariants.{First, Records, Blocks, Broken}

-- the state of a capture, by how it is read on
abbrev pub state_of : Source → CaptureState
state_of (First rest) = record { stage = Unopened; rest = rest }
state_of (Records capture) = record { stage = classic_stage capture.stage; rest = capture.rest }
state_of (Blocks capture) = record { stage = newer_stage capture.is_broken capture.section; rest = capture.rest }
state_of Broken = broken

-- a capture that is read in the classic format has its heading
abbrev pub IsOpened : Source → Type 0
IsOpened (First rest) = Unit {0}
IsOpened (Records capture) = capture.stage ≢ stages.Opening
IsOpened (Blocks capture) = Unit {0}
IsOpened Broken = Unit {0}

-- what was wanted was read to its end, or to a fault, which breaks the capture
abbrev pub IsRead : Reading → CaptureState → List FrameValue → Option PcapFault → Type 0
IsRead wanted state frames None = record { frames = frames; fault = None; state = state } ≡ wanted
IsRead wanted state frames (Some fault) = (state ≡ broken) × Stops wanted frames fault

-- A piece of at most so many bytes that a device gave of those it had, where it tells them, and that was read behind the
-- frames that were there.
pub record IsTaken (tells : Type 0) (most : ℕ) (left more : List ℕ) (old new : CaptureState)
    (there frames : List FrameValue) (fault : Option PcapFault) : Type 0 where
  pub piece : List ℕ
  pub few : length piece ≤ most
  pub given : tells → left ≡ piece ++ more
  pub read : IsRead (prepend there (reading old piece)) new frames fault
  pub so_far : (bytes : List ℕ) (before : List FrameValue) → IsSoFar bytes before old there
      → IsRead (prepend before (capture (bytes ++ piece))) new frames fault

-- What taking a piece of at most so many bytes comes to, by what a device tells, has left, still answers and counts,
-- before and after.
pub record IsTakenFrom {A : Type 0} (tells : A → Type 0) (left : A → List ℕ) (calls failed : A → ℕ) (device now : A)
    (most : ℕ) (old new : CaptureState) (there frames : List FrameValue) (result : Result ℕ PcapFault) : Type 0 where
  pub told : tells device → tells now
  pub ok : IfOk result (λ taken.
      (it : IsTaken (tells device) most (left device) (left now) old new there frames None) × (length it.piece ≡ taken))
  pub err : IfErr result (λ fault.
      ((fault ≡ ReadFault) × (new ≡ old) × (frames ≡ there) × (tells device → left now ≡ left device))
      ⊎ IsTaken (tells device) most (left device) (left now) old new there frames (Some fault))
  pub end : tells device → result ≡ Ok 0 → 0 < most → left now ≡ []
  pub reads : IsOfReads (is_read_fault result) (failed device) (failed now) (calls now)
  pub fewer : (calls now < calls device) ⊎ (IsErr result × (frames ≡ there))
  pub no_more : calls now ≤ calls device

-- what ending a capture comes to
abbrev pub IsEnding : CaptureState → CaptureState → Result (Unit {0}) PcapFault → Type 0
IsEnding old new result = MatchResult result
    (λ _. (ending old ≡ None) × (new ≡ old))
    (λ fault. (ending old ≡ Some fault) × (new ≡ broken))
