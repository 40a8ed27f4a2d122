-- A capture in the classic format or the newer one: which frames stand in a list of bytes, and the first fault, if any.
use Rattle.std.specs.Prelude.{◌≡◌, ◌⊎◌, ℕ, Bool, true, false, nat_eq, nat_lt, ◌&&◌, if◌then◌else◌, List, [], ◌++◌, length, drop, Option, None, Some, Result, Ok, Err}
use Rattle.byteorder.specs.Endian.{big_number, little_number}
use Rattle.pcap_capture.specs.Frames.{FrameValue}
use Rattle.pcap_capture.specs.Grammar as classic
use Rattle.pcap_capture.specs.declared.fault.PcapFault.{PcapFault}
use Rattle.pcap_capture.specs.declared.fault.PcapFault.TheVariants.{Truncated, NoMemory, Failed}
use Rattle.pcap_capture.specs.declared.heading.Heading.{Heading}
use Rattle.pcap_capture.specs.declared.stage.Stage.{Stage as ClassicStage}
use Rattle.pcap_capture.specs.declared.stage.Stage.TheVariants as stages
use Rattle.pcapng_capture.specs.Grammar as newer
use Rattle.pcapng_capture.specs.Packets.{SectionValue}
use Rattle.capture_reader.specs.declared.opening.Opening.{Opening}
use Rattle.capture_reader.specs.declared.opening.Opening.TheVariants.{Classic, Blocks}

-- the bytes that stand before the first frame: the heading of a classic capture; none in the newer format
abbrev pub bytes_before : Opening → List ℕ
bytes_before (Classic heading) = heading.bytes
bytes_before Blocks = []

-- Whether the first four bytes are those of a section header (draft-ietf-opsawg-pcapng section 4.1), a number that is the
-- same in either order.
unfoldable pub begins_with_block : List ℕ → Bool
begins_with_block bytes =
    nat_lt 3 (length bytes) && (nat_eq (big_number 4 bytes) 0x0a0d0d0a && nat_eq (little_number 4 bytes) 0x0a0d0d0a)

-- the newer format, once twelve bytes of its first block tell that block's size
abbrev pub opened_by : ℕ → Result ℕ PcapFault → Option (Result Opening PcapFault)
opened_by count (Err fault) = Some (Err fault)
opened_by count (Ok size) = if nat_lt count 12 then None else Some (Ok Blocks)

-- the classic format, once its heading is there
abbrev pub headed_by : Option (Result Heading PcapFault) → Option (Result Opening PcapFault)
headed_by None = None
headed_by (Some (Err fault)) = Some (Err fault)
headed_by (Some (Ok heading)) = Some (Ok (Classic heading))

-- What stands before the first frame: none where more bytes have to come to tell it.
unfoldable pub opening_of : List ℕ → Option (Result Opening PcapFault)
opening_of bytes =
    if begins_with_block bytes then opened_by (length bytes) (newer.size_of newer.no_section bytes)
    else headed_by (classic.heading_of bytes)

-- how far a capture was read: not up to its first frame, or in the records behind a heading, or in a section
pub data Stage : Type 0 where
  Unopened : Stage
  Records : Heading → Stage
  Sections : SectionValue → Stage
  Broken : Stage

-- a capture that is being read: how far it came, and the bytes that are not yet a frame
pub record CaptureState : Type 0 where
  pub stage : Stage
  pub rest : List ℕ

-- what was read: frames, the fault that stopped the reading, if any, and how it goes on
pub record Reading : Type 0 where
  pub frames : List FrameValue
  pub fault : Option PcapFault
  pub state : CaptureState

-- a capture in which a fault was found
abbrev pub broken : CaptureState
broken = record { stage = Broken; rest = [] }

abbrev pub stopped : PcapFault → Reading
stopped fault = record { frames = []; fault = Some fault; state = broken }

abbrev pub waiting : Stage → List ℕ → Reading
waiting stage rest = record { frames = []; fault = None; state = record { stage = stage; rest = rest } }

-- more frames in front
abbrev pub prepend : List FrameValue → Reading → Reading
prepend frames reading = record reading { frames = frames ++ reading.frames }

-- what is read in the classic format
abbrev pub classic_stage : ClassicStage → Stage
classic_stage stages.Opening = Unopened
classic_stage (stages.Records heading) = Records heading
classic_stage stages.Broken = Broken

abbrev pub of_records : classic.Reading → Reading
of_records read = record {
  frames = read.frames;
  fault = read.fault;
  state = record { stage = classic_stage read.state.stage; rest = read.state.rest };
}

-- and in the newer one
abbrev pub newer_stage : Bool → SectionValue → Stage
newer_stage true section = Broken
newer_stage false section = Sections section

abbrev pub of_blocks : newer.Reading → Reading
of_blocks read = record {
  frames = read.blocks;
  fault = read.fault;
  state = record { stage = newer_stage read.state.is_broken read.state.section; rest = read.state.rest };
}

-- the frames behind an opening
abbrev pub after_opening : List ℕ → Option (Result Opening PcapFault) → Reading
after_opening bytes None = waiting Unopened bytes
after_opening bytes (Some (Err fault)) = stopped fault
after_opening bytes (Some (Ok (Classic heading))) = of_records (classic.records heading (drop 24 bytes))
after_opening bytes (Some (Ok Blocks)) = of_blocks (newer.blocks newer.no_section bytes)

-- a capture, as far as its bytes go
unfoldable pub capture : List ℕ → Reading
capture bytes = after_opening bytes (opening_of bytes)

-- what more bytes make of a capture that is being read
abbrev pub read_on : Stage → List ℕ → Reading
read_on Unopened bytes = capture bytes
read_on (Records heading) bytes = of_records (classic.records heading bytes)
read_on (Sections section) bytes = of_blocks (newer.blocks section bytes)
read_on Broken bytes = stopped Failed

abbrev pub reading : CaptureState → List ℕ → Reading
reading state piece = read_on state.stage (state.rest ++ piece)

-- what the end of the bytes makes of it: a fault in the middle of the heading, of a record or of a block
abbrev pub ending_at : Stage → ℕ → Option PcapFault
ending_at Unopened count = Some Truncated
ending_at (Records heading) count = if nat_eq count 0 then None else Some Truncated
ending_at (Sections section) count = newer.ending_by false section.order count
ending_at Broken count = Some Failed

abbrev pub ending : CaptureState → Option PcapFault
ending state = ending_at state.stage (length state.rest)

-- the fault that was found in a reading, or else at its end
abbrev pub fault_after : Option PcapFault → CaptureState → Option PcapFault
fault_after None state = ending state
fault_after (Some fault) state = Some fault

-- the first fault that stands in the bytes of a capture, if any
abbrev pub fault_in : List ℕ → Option PcapFault
fault_in bytes = fault_after (capture bytes).fault (capture bytes).state

-- what more bytes make of a reading: a fault stands
abbrev pub continued_from : Option PcapFault → Reading → List ℕ → Reading
continued_from None read more = prepend read.frames (reading read.state more)
continued_from (Some fault) read more = read

abbrev pub continued : Reading → List ℕ → Reading
continued read more = continued_from read.fault read more

-- Frames and a state are what the grammar makes of the bytes so far, behind frames that were there before.
abbrev pub IsSoFar : List ℕ → List FrameValue → CaptureState → List FrameValue → Type 0
IsSoFar bytes before state frames =
    record { frames = frames; fault = None; state = state } ≡ prepend before (capture bytes)

-- a fault that ends a reading: its own, with all its frames, or want of memory, with some of its first frames
abbrev pub Stops : Reading → List FrameValue → PcapFault → Type 0
Stops wanted frames fault =
    (record { frames = frames; fault = Some fault; state = broken } ≡ wanted)
    ⊎ ((fault ≡ NoMemory) × ((others : List FrameValue) × (frames ++ others ≡ wanted.frames)))

-- what stands before the first frame of a capture that is being read, once it is known
abbrev pub opening_at : Stage → Option Opening
opening_at Unopened = None
opening_at (Records heading) = Some (Classic heading)
opening_at (Sections section) = Some Blocks
opening_at Broken = None
