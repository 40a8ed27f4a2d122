-- The classic capture format: which frames stand in a list of bytes, and the first fault, if any.
use Rattle.std.specs.Prelude.{◌≡◌, ◌⊎◌, ℕ, zero, suc, ◌+◌, ◌-◌, ◌*◌, ◌%◌, Bool, nat_eq, nat_lt, ◌&&◌, ◌||◌}
use Rattle.std.specs.Prelude.{if◌then◌else◌, List, [], ◌∷◌, ◌++◌, length, take, drop, Option, None, Some, Result, Ok}
use Rattle.std.specs.Prelude.{Err}
use Rattle.std.specs.Option.{unwrap_or}
use Rattle.byteorder.specs.Endian.{big_number, little_number}
use Rattle.pcap_capture.specs.Frames.{FrameValue}
use Rattle.pcap_capture.specs.declared.content.Content.TheVariants.{Record}
use Rattle.pcap_capture.specs.declared.content.Place.{Place}
use Rattle.pcap_capture.specs.declared.fault.PcapFault.{PcapFault}
use Rattle.pcap_capture.specs.declared.fault.PcapFault.TheVariants as pcaps
use Rattle.pcap_capture.specs.declared.fault.PcapFault.TheVariants.{NotPcap, IsPcapng, BadVersion}
use Rattle.pcap_capture.specs.declared.fault.PcapFault.TheVariants.{RecordTooLong, Truncated, NoMemory, Failed}
use Rattle.pcap_capture.specs.declared.heading.Endianness.{Endianness}
use Rattle.pcap_capture.specs.declared.heading.Endianness.TheVariants.{Big, Little}
use Rattle.pcap_capture.specs.declared.heading.Heading.{Heading}
use Rattle.pcap_capture.specs.declared.heading.LinkType.{LinkType}
use Rattle.pcap_capture.specs.declared.heading.LinkType.TheVariants.{Ethernet, RawIp, Ipv4, Ipv6, LinuxCooked}
use Rattle.pcap_capture.specs.declared.heading.LinkType.TheVariants.{LinuxCooked2, Loopback, Unread}
use Rattle.pcap_capture.specs.declared.heading.TimeUnit.{TimeUnit}
use Rattle.pcap_capture.specs.declared.heading.TimeUnit.TheVariants.{Microseconds, Nanoseconds}
use Rattle.pcap_capture.specs.declared.stage.Stage.{Stage}
use Rattle.pcap_capture.specs.declared.stage.Stage.TheVariants.{Opening, Records, Broken}

-- the number in the first bytes, in the order of the file
abbrev pub number : Endianness → ℕ → List ℕ → ℕ
number Big count bytes = big_number count bytes
number Little count bytes = little_number count bytes

-- The magic number says the order of the file and the unit of its fractions of a second.
unfoldable pub magic_of : List ℕ → Option (Endianness × TimeUnit)
magic_of bytes =
    if nat_eq (big_number 4 bytes) 0xa1b2c3d4 then Some (Big, Microseconds)
    else if nat_eq (little_number 4 bytes) 0xa1b2c3d4 then Some (Little, Microseconds)
    else if nat_eq (big_number 4 bytes) 0xa1b23c4d then Some (Big, Nanoseconds)
    else if nat_eq (little_number 4 bytes) 0xa1b23c4d then Some (Little, Nanoseconds)
    else None

-- the link types that are read, by their numbers
unfoldable pub link_of : ℕ → Option LinkType
link_of kind =
    if nat_eq kind 0 || nat_eq kind 108 then Some Loopback
    else if nat_eq kind 1 then Some Ethernet
    else if nat_eq kind 12 || nat_eq kind 14 || nat_eq kind 101 then Some RawIp
    else if nat_eq kind 113 then Some LinuxCooked
    else if nat_eq kind 228 then Some Ipv4
    else if nat_eq kind 229 then Some Ipv6
    else if nat_eq kind 276 then Some LinuxCooked2
    else None

-- the link type of a number, also where it is none that is read
abbrev pub link_numbered : ℕ → LinkType
link_numbered kind = unwrap_or (link_of kind) Unread

-- the low 16 bits of the heading's last word
abbrev pub link_number : Endianness → List ℕ → ℕ
link_number order bytes = number order 4 (drop 20 bytes) % 65536

-- the version is 2.4
abbrev pub has_version : Endianness → List ℕ → Bool
has_version order bytes = nat_eq (number order 2 (drop 4 bytes)) 2 && nat_eq (number order 2 (drop 6 bytes)) 4

-- a heading of this link type, unless that is none that is read
abbrev pub linked : Endianness → TimeUnit → List ℕ → Option LinkType → Result Heading PcapFault
linked order unit bytes None = Err (pcaps.LinkType (link_number order bytes))
linked order unit bytes (Some link) = Ok (record { bytes = take 24 bytes; order = order; unit = unit; link = link })

-- a heading of this order and unit, unless its version or its link type is not one that is read
abbrev pub versioned : Endianness → TimeUnit → List ℕ → Result Heading PcapFault
versioned order unit bytes =
    if has_version order bytes then linked order unit bytes (link_of (link_number order bytes)) else Err BadVersion

-- The heading at the front of a capture whose magic number is judged: none where more of it is to come.
abbrev pub after_magic : List ℕ → Option (Endianness × TimeUnit) → Option (Result Heading PcapFault)
after_magic bytes None = Some (Err (if nat_eq (big_number 4 bytes) 0x0a0d0d0a then IsPcapng else NotPcap))
after_magic bytes (Some magic) = if nat_lt (length bytes) 24 then None else Some (versioned magic.0 magic.1 bytes)

-- The heading at the front of a capture: none where more of it is to come. The magic number is judged once it is there,
-- the rest once all of the heading is.
unfoldable pub heading_of : List ℕ → Option (Result Heading PcapFault)
heading_of bytes = if nat_lt (length bytes) 4 then None else after_magic bytes (magic_of bytes)

-- how many bytes of a packet a record holds
abbrev pub captured : Heading → List ℕ → ℕ
captured heading bytes = number heading.order 4 (drop 8 bytes)

-- the nanoseconds of one unit
abbrev pub nanoseconds : TimeUnit → ℕ
nanoseconds Microseconds = 1000
nanoseconds Nanoseconds = 1

-- the moment of a record: its seconds, and its fraction, whatever that is
abbrev pub moment_of : Heading → List ℕ → ℕ
moment_of heading bytes =
    number heading.order 4 bytes * 1000000000 + number heading.order 4 (drop 4 bytes) * nanoseconds heading.unit

-- what stands at the front of a list of bytes: less than a record, one with more bytes than are read, or a frame and
-- what comes after it
pub data Next : Type 0 where
  Partial : Next
  TooLong : ℕ → Next
  Whole : FrameValue → List ℕ → Next

-- a record: its own sixteen bytes, and the captured bytes
abbrev pub frame_of : Heading → List ℕ → FrameValue
frame_of heading bytes =
    record {
      head = take 16 bytes;
      moment = moment_of heading bytes;
      bytes = take (captured heading bytes) (drop 16 bytes);
      tail = [];
      content = Record heading.link;
    }

-- where the packet stands in a record of so many bytes
abbrev pub place_of : Heading → List ℕ → ℕ → Place
place_of heading bytes size =
    record { moment = moment_of heading bytes; front = 16; size = size - 16; content = Record heading.link }

unfoldable pub next_of : Heading → List ℕ → Next
next_of heading bytes =
    if nat_lt (length bytes) 16 then Partial
    else if nat_lt 262144 (captured heading bytes) then TooLong (captured heading bytes)
    else if nat_lt (length bytes) (16 + captured heading bytes) then Partial
    else Whole (frame_of heading bytes) (drop (16 + captured heading bytes) bytes)

-- The size of the record at the front, as far as it is known: 16 bytes tell it.
unfoldable pub record_size : Heading → List ℕ → Result ℕ PcapFault
record_size heading bytes =
    if nat_lt (length bytes) 16 then Ok 16
    else if nat_lt 262144 (captured heading bytes) then Err (RecordTooLong (captured heading bytes))
    else Ok (16 + captured heading bytes)

-- a capture that is being read: how far it came, and the bytes that are not yet a frame
pub record CaptureState : Type 0 where
  pub stage : Stage
  pub rest : List ℕ

-- what was read: frames, the fault that stopped the reading, if any, and how it goes on
pub record Reading : Type 0 where
  pub frames : List FrameValue
  pub fault : Option PcapFault
  pub state : CaptureState

-- a capture in which a fault was found
abbrev pub broken : CaptureState
broken = record { stage = Broken; rest = [] }

abbrev pub stopped : PcapFault → Reading
stopped fault = record { frames = []; fault = Some fault; state = broken }

abbrev pub waiting : Stage → List ℕ → Reading
waiting stage rest = record { frames = []; fault = None; state = record { stage = stage; rest = rest } }

-- more frames in front
abbrev pub prepend : List FrameValue → Reading → Reading
prepend frames reading = record reading { frames = frames ++ reading.frames }

-- what stands in a list of bytes, by what stands at its front, once it is known how to read on
abbrev pub from_next : Heading → List ℕ → (List ℕ → Reading) → Next → Reading
from_next heading bytes read Partial = waiting (Records heading) bytes
from_next heading bytes read (TooLong count) = stopped (RecordTooLong count)
from_next heading bytes read (Whole frame after) = prepend (frame ∷ []) (read after)

-- the records of a list of bytes, at most so many
abbrev pub records_within : ℕ → Heading → List ℕ → Reading
records_within zero heading bytes = waiting (Records heading) bytes
records_within (suc most) heading bytes = from_next heading bytes (records_within most heading) (next_of heading bytes)

-- all records of a list of bytes: there are no more than bytes
unfoldable pub records : Heading → List ℕ → Reading
records heading bytes = records_within (length bytes) heading bytes

-- the records behind a heading
abbrev pub after_heading : List ℕ → Option (Result Heading PcapFault) → Reading
after_heading bytes None = waiting Opening bytes
after_heading bytes (Some (Err fault)) = stopped fault
after_heading bytes (Some (Ok heading)) = records heading (drop 24 bytes)

-- a capture, as far as its bytes go
unfoldable pub capture : List ℕ → Reading
capture bytes = after_heading bytes (heading_of bytes)

-- what more bytes make of a capture that is being read
abbrev pub read_on : Stage → List ℕ → Reading
read_on Opening bytes = capture bytes
read_on (Records heading) bytes = records heading bytes
read_on Broken bytes = stopped Failed

abbrev pub reading : CaptureState → List ℕ → Reading
reading state piece = read_on state.stage (state.rest ++ piece)

-- what the end of the bytes makes of it: a fault in the middle of the heading or of a record
abbrev pub ending : CaptureState → Option PcapFault
ending state = elim (state.stage) [
  | Opening ↦ Some Truncated
  | Records heading ↦ if nat_eq (length state.rest) 0 then None else Some Truncated
  | Broken ↦ Some Failed
]

-- the fault that was found in a reading, or else at its end
abbrev pub fault_after : Option PcapFault → CaptureState → Option PcapFault
fault_after None state = ending state
fault_after (Some fault) state = Some fault

-- the first fault that stands in the bytes of a capture, if any
abbrev pub fault_in : List ℕ → Option PcapFault
fault_in bytes = fault_after (capture bytes).fault (capture bytes).state

-- what more bytes make of a reading: a fault stands
abbrev pub continued_from : Option PcapFault → Reading → List ℕ → Reading
continued_from None read more = prepend read.frames (reading read.state more)
continued_from (Some fault) read more = read

abbrev pub continued : Reading → List ℕ → Reading
continued read more = continued_from read.fault read more

-- Frames and a state are what the grammar makes of the bytes so far, behind frames that were there before.
abbrev pub IsSoFar : List ℕ → List FrameValue → CaptureState → List FrameValue → Type 0
IsSoFar bytes before state frames =
    record { frames = frames; fault = None; state = state } ≡ prepend before (capture bytes)

-- a fault that ends a reading: its own, with all its frames, or want of memory, with some of its first frames
abbrev pub Stops : Reading → List FrameValue → PcapFault → Type 0
Stops wanted frames fault =
    (record { frames = frames; fault = Some fault; state = broken } ≡ wanted)
    ⊎ ((fault ≡ NoMemory) × ((others : List FrameValue) × (frames ++ others ≡ wanted.frames)))

-- what is left over is less than what would come next
abbrev pub IsSettled : Stage → List ℕ → Type 0
IsSettled Opening rest = heading_of rest ≡ None
IsSettled (Records heading) rest = next_of heading rest ≡ Partial
IsSettled Broken rest = rest ≡ []
