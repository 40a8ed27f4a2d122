-- What is read of a capture that a device gives.
use Rattle.std.specs.Prelude.{◌≡◌, ◌≢◌, ◌⊎◌, ◌↔◌, ℕ, ◌-◌, ◌≤◌, ◌<◌, Bool, true, false, List, [], ◌++◌, length, Option, None, Some, Result, Ok, Err, OnOk}
use Rattle.pcap_capture.specs.Counts.{IsOfReads}
use Rattle.pcap_capture.specs.Frames.{FrameValue}
use Rattle.pcap_capture.specs.Takings.{is_read_fault}
use Rattle.pcap_capture.specs.declared.fault.PcapFault.{PcapFault}
use Rattle.pcap_capture.specs.declared.fault.PcapFault.TheVariants.{ReadFault, WriteFault, NoMemory}
use Rattle.capture_reader.specs.Formats.{IsSoFar, capture, fault_in, opening_at, opening_of}
use Rattle.capture_reader.specs.declared.opening.Opening.{Opening}
use Rattle.capture_reader.specs.declared.reading.Read.{Read}
use Rattle.capture_reader.specs.declared.reading.Read.TheVariants.{Full, Last, Short, Failed as ReadFailed}
use Rattle.capture_reader.specs.declared.reading.Progress.{Progress}

-- what stands before the first frame of a capture, if that is there whole and one that is read
abbrev pub opening_in : List ℕ → Option Opening → Type 0
opening_in bytes None = (opening : Opening) → opening_of bytes ≢ Some (Ok opening)
opening_in bytes (Some opening) = opening_of bytes ≡ Some (Ok opening)

-- The opening that is told of bytes that were read: the one that stands there, or none where memory ran out.
abbrev pub IsOpeningTold : List ℕ → Option Opening → Option PcapFault → Type 0
IsOpeningTold read opening fault = opening_in read opening ⊎ ((opening ≡ None) × (fault ≡ Some NoMemory))

-- All of a capture was read, up to its end or to the first fault that stands in it; or the device failed behind some of
-- its bytes; or memory ran out.
abbrev pub IsReadTo : List ℕ → List ℕ → List FrameValue → Option PcapFault → Type 0
IsReadTo read more frames None = (more ≡ []) × (frames ≡ (capture read).frames) × (fault_in read ≡ None)
IsReadTo read more frames (Some fault) =
    ((fault ≡ ReadFault) × (frames ≡ (capture read).frames) × ((capture read).fault ≡ None))
    ⊎ ((fault ≡ NoMemory) × ((others : List FrameValue) × (frames ++ others ≡ (capture read).frames)))
    ⊎ ((frames ≡ (capture (read ++ more)).frames) × (fault_in (read ++ more) ≡ Some fault)
    × ((more ≡ []) ⊎ ((capture read).fault ≡ Some fault)))

-- what was read of bytes: the front of them, its opening, its frames, and what ended the reading
pub record IsReading (bytes more : List ℕ) (opening : Option Opening) (frames : List FrameValue)
    (fault : Option PcapFault) : Type 0 where
  pub read : List ℕ
  pub front : bytes ≡ read ++ more
  pub told : IsOpeningTold read opening fault
  pub ended : IsReadTo read more frames fault

-- What was read of bytes in which no fault was found so far: the front of them, the opening once it is known, how many
-- bytes of as many as a heading has are still to come, and the frames, of which these were taken out.
pub record IsUnderway (gone : List FrameValue) (bytes more : List ℕ) (progress : Progress) : Type 0 where
  pub read : List ℕ
  pub front : bytes ≡ read ++ more
  pub so_far : IsSoFar read [] progress.capture (gone ++ progress.piece)
  pub known : progress.opening ≡ opening_at progress.capture.stage
  pub to_come : progress.missing ≡ 24 - length read

-- a reading that ended with this fault, or at the capture's end
abbrev pub IsEnded : List FrameValue → List ℕ → List ℕ → Progress → Option PcapFault → Type 0
IsEnded gone bytes more progress fault = IsReading bytes more progress.opening (gone ++ progress.piece) fault

-- what a call that reads a piece comes to: more may come, or it ended
abbrev pub IsReadOn : List FrameValue → List ℕ → List ℕ → Progress → Result Bool PcapFault → Type 0
IsReadOn gone bytes more progress (Ok true) = IsUnderway gone bytes more progress
IsReadOn gone bytes more progress (Ok false) = IsEnded gone bytes more progress None
IsReadOn gone bytes more progress (Err fault) = IsEnded gone bytes more progress (Some fault)

-- whether there was a piece
abbrev pub read_by : Read → Result Bool PcapFault
read_by Full = Ok true
read_by Short = Ok true
read_by Last = Ok false
read_by (ReadFailed fault) = Err fault

-- whether the piece that was read is full
abbrev pub is_full_by : Read → Bool
is_full_by Full = true
is_full_by Short = false
is_full_by Last = false
is_full_by (ReadFailed fault) = false

-- once the opening of a capture is known, it stays
abbrev pub IsOpeningKept : Progress → Progress → Type 0
IsOpeningKept before after = (opening : Opening) → opening_at before.capture.stage ≡ Some opening
    → before.opening ≡ Some opening → after.opening ≡ Some opening

-- whether a piece was there, if only one of no byte
abbrev pub piece_by : Result ℕ PcapFault → Result Bool PcapFault
piece_by (Ok taken) = Ok true
piece_by (Err fault) = Err fault

-- A piece that a device gave of the bytes that it had left: it has 65,536 bytes at most, and is full if it has as many.
pub record IsPieceOf (left more : List ℕ) (is_full : Bool) : Type 0 where
  pub piece : List ℕ
  pub front : left ≡ piece ++ more
  pub most : length piece ≤ 65536
  pub full : (is_full ≡ true) ↔ (length piece ≡ 65536)

-- What reading a piece comes to, and whether it is full, by what a device tells, has left, still answers and counts,
-- before and after.
pub record IsPieceRead {A : Type 0} (tells : A → Type 0) (left : A → List ℕ) (calls failed : A → ℕ) (old new : A)
    (before after : Progress) (result : Result Bool PcapFault) (is_full : Bool) : Type 0 where
  pub missing : after.missing ≤ before.missing
  pub fewer : OnOk result (calls new < calls old)
  pub stays : IsOpeningKept before after
  pub told : tells old → tells new
  pub read : (gone : List FrameValue) (bytes : List ℕ) → tells old → IsUnderway gone bytes (left old) before
      → IsReadOn gone bytes (left new) after result
  pub size : OnOk result (tells old → IsPieceOf (left old) (left new) is_full)
  pub full : OnOk result (after.is_full ≡ is_full)
  pub reads : IsOfReads (is_read_fault result) (failed old) (failed new) (calls new)
  pub no_write : ¬ (result ≡ Err WriteFault)

-- The frames that were there whole are taken out, and nothing else changes.
pub record IsTakenOut (piece : List FrameValue) (old new : Progress) : Type 0 where
  pub taken : piece ≡ old.piece
  pub none : new.piece ≡ []
  pub missing : new.missing ≡ old.missing
  pub opening : new.opening ≡ old.opening
  pub full : new.is_full ≡ old.is_full
  pub read : (gone : List FrameValue) (bytes more : List ℕ) → IsUnderway gone bytes more old
      → IsUnderway (gone ++ piece) bytes more new
  pub ended : (gone : List FrameValue) (bytes more : List ℕ) (fault : Option PcapFault)
      → IsEnded gone bytes more old fault → IsReading bytes more old.opening (gone ++ piece) fault

-- whether memory ran out
abbrev pub is_starved : PcapFault → Bool
is_starved NoMemory = true
is_starved _ = false

-- whether memory ran out where a piece was read
abbrev pub is_starving : Result Bool PcapFault → Bool
is_starving (Ok more) = false
is_starving (Err fault) = is_starved fault
