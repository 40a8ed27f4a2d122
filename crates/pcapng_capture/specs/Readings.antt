-- What reading a piece of a capture comes to.
use Rattle.std.specs.Prelude.{◌≡◌, ◌⊎◌, ◌≤◌, ℕ, List, ◌++◌, length, Option, None, Some}
use Rattle.pcap_capture.specs.Frames.{FrameValue}
use Rattle.pcapng_capture.specs.Grammar.{CaptureState, Reading, broken, capture, prepend, reading}
use Rattle.pcap_capture.specs.declared.fault.PcapFault.{PcapFault}
use Rattle.pcap_capture.specs.declared.fault.PcapFault.TheVariants.{NoMemory}

-- Blocks and a state are what the format makes of the bytes so far, behind blocks that were there before.
abbrev pub IsSoFar : List ℕ → List FrameValue → CaptureState → List FrameValue → Type 0
IsSoFar bytes before state blocks =
    record { blocks = blocks; fault = None; state = state } ≡ prepend before (capture bytes)

-- a fault that ends a reading: its own, with all its blocks, or want of memory, with some of its first blocks
abbrev pub Stops : Reading → List FrameValue → PcapFault → Type 0
Stops wanted blocks fault =
    (record { blocks = blocks; fault = Some fault; state = broken } ≡ wanted)
    ⊎ ((fault ≡ NoMemory) × ((others : List FrameValue) × (blocks ++ others ≡ wanted.blocks)))

-- what was wanted was read to its end, or to a fault, which breaks the capture
abbrev pub IsRead : Reading → CaptureState → List FrameValue → Option PcapFault → Type 0
IsRead wanted state blocks None = record { blocks = blocks; fault = None; state = state } ≡ wanted
IsRead wanted state blocks (Some fault) = (state ≡ broken) × Stops wanted blocks fault

-- A piece of at most so many bytes that a device gave of those it had, where it tells them, and that was read behind the
-- blocks that were there.
pub record IsTaken (tells : Type 0) (most : ℕ) (left more : List ℕ) (old new : CaptureState)
    (there blocks : List FrameValue) (fault : Option PcapFault) : Type 0 where
  pub piece : List ℕ
  pub few : length piece ≤ most
  pub given : tells → left ≡ piece ++ more
  pub read : IsRead (prepend there (reading old piece)) new blocks fault
  pub so_far : (bytes : List ℕ) (before : List FrameValue) → IsSoFar bytes before old there
      → IsRead (prepend before (capture (bytes ++ piece))) new blocks fault
