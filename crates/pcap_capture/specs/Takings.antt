-- What a piece that a device gives makes of a capture.
use Rattle.std.specs.Prelude.{◌≡◌, ◌≤◌, ℕ, Bool, true, false, List, ◌++◌, length, Option, None, Some, Result, Err}
use Rattle.pcap_capture.specs.Frames.{FrameValue}
use Rattle.pcap_capture.specs.Grammar.{CaptureState, IsSoFar, Reading, Stops, broken, capture, prepend, reading}
use Rattle.pcap_capture.specs.declared.fault.PcapFault.{PcapFault}
use Rattle.pcap_capture.specs.declared.fault.PcapFault.TheVariants.{ReadFault, WriteFault}

-- what was wanted was read to its end, or to a fault, which breaks the capture
abbrev pub IsRead : Reading → CaptureState → List FrameValue → Option PcapFault → Type 0
IsRead wanted state frames None = record { frames = frames; fault = None; state = state } ≡ wanted
IsRead wanted state frames (Some fault) = (state ≡ broken) × Stops wanted frames fault

-- A piece of at most so many bytes that a device gave of those it had, where it tells them, and that was read behind the
-- frames that were there.
pub record IsTaken (tells : Type 0) (most : ℕ) (left more : List ℕ) (old new : CaptureState)
    (there frames : List FrameValue) (fault : Option PcapFault) : Type 0 where
  pub piece : List ℕ
  pub few : length piece ≤ most
  pub given : tells → left ≡ piece ++ more
  pub read : IsRead (prepend there (reading old piece)) new frames fault
  pub so_far : (bytes : List ℕ) (before : List FrameValue) → IsSoFar bytes before old there
      → IsRead (prepend before (capture (bytes ++ piece))) new frames fault

-- whether a device failed that gives bytes
abbrev pub is_read_fault : {T : Type 0} → Result T PcapFault → Bool
is_read_fault (Err ReadFault) = true
is_read_fault _ = false

-- whether a fault is of a capture itself, or want of memory, and none of a device
abbrev pub is_own : PcapFault → Bool
is_own ReadFault = false
is_own WriteFault = false
is_own _ = true
