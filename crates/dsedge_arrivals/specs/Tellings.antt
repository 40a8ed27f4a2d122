-- What was told of the arrivals of a capture that a device gives.
use Rattle.std.specs.Prelude.{◌≡◌, ◌⊎◌, ℕ, Bool, MatchBool, true, false, List, [], ◌++◌, Option, None, Some, Result, Ok, Err, if◌then◌else◌}
use Rattle.pcap_capture.specs.Counts.{next_count}
use Rattle.pcap_capture.specs.Fronts.{IsFrontOf}
use Rattle.pcap_capture.specs.Frames.{FrameValue}
use Rattle.capture_reader.specs.declared.opening.Opening.{Opening}
use Rattle.capture_reader.specs.Readings.{IsReading}
use Rattle.pcap_capture.specs.declared.fault.PcapFault.{PcapFault}
use Rattle.pcap_capture.specs.declared.fault.PcapFault.TheVariants.{WriteFault, NoMemory}
use Rattle.dsedge_arrivals.specs.Arrivals.{Filter, lines_in, lines_told}
use Rattle.dsedge_arrivals.specs.declared.telling.Lines.{Lines}

-- The lines of all frames that were read of a capture were written behind what stood, up to its end or to what ended the
-- reading.
pub record IsToldTo (filter : Filter) (bytes more before after : List ℕ) (fault : Option PcapFault) : Type 0 where
  pub opening : Option Opening
  pub frames : List FrameValue
  pub reading : IsReading bytes more opening frames fault
  pub written : after ≡ before ++ lines_told filter opening frames

-- A front of the lines of what was read was written.
pub record IsToldInPart (filter : Filter) (bytes more before after : List ℕ) : Type 0 where
  pub read : List ℕ
  pub front : bytes ≡ read ++ more
  pub written : IsFrontOf before (lines_in filter read) after

-- whether a device could not be written, or memory ran out, so that nothing is said of the other
abbrev pub is_broken_off : Result (Unit {0}) PcapFault → Bool
is_broken_off (Err WriteFault) = true
is_broken_off (Err NoMemory) = true
is_broken_off _ = false

-- whether a device could not be written
abbrev pub is_unwritten : Result (Unit {0}) PcapFault → Bool
is_unwritten (Err WriteFault) = true
is_unwritten _ = false

-- how often a device failed, behind a call that may have failed to write to it
abbrev pub failures_after : Result (Unit {0}) PcapFault → ℕ → ℕ
failures_after result failed = if is_unwritten result then next_count failed else failed

-- nothing is collected, and no frame is left in the piece that was used before
abbrev pub IsIdle : Lines → Type 0
IsIdle lines = (lines.out.items ≡ []) × (lines.spent ≡ [])

-- a text was written behind what stood, or a front of it
abbrev pub IsGiven : Result (Unit {0}) PcapFault → List ℕ → List ℕ → List ℕ → Type 0
IsGiven (Ok done) text before after = after ≡ before ++ text
IsGiven (Err fault) text before after = IsFrontOf before text after

-- what breaks the telling off: a device that cannot be written, or want of memory
abbrev pub IsBreak : PcapFault → Type 0
IsBreak fault = (fault ≡ WriteFault) ⊎ (fault ≡ NoMemory)

-- what ended the reading
abbrev pub fault_of : Result (Unit {0}) PcapFault → Option PcapFault
fault_of (Ok done) = None
fault_of (Err fault) = Some fault

-- What was written behind what stood, for the bytes that a device had and those that it still has: the lines of all that
-- was read, to its end or to what ended it; or a front, where the other device failed or memory ran out.
abbrev pub IsToldAs : Filter → List ℕ → List ℕ → List ℕ → List ℕ → Result (Unit {0}) PcapFault → Type 0
IsToldAs filter bytes more before after result = MatchBool (is_broken_off result)
    (IsToldInPart filter bytes more before after) (IsToldTo filter bytes more before after (fault_of result))
