-- The pcapng format (draft-ietf-opsawg-pcapng): which blocks stand in a list of bytes, and the first fault, if any.
use Rattle.std.specs.Prelude.{ℕ, zero, suc, ◌-◌, ◌%◌, Bool, true, false, not, nat_eq, nat_lt, ◌||◌}
use Rattle.std.specs.Prelude.{if◌then◌else◌, List, [], ◌∷◌, ◌++◌, length, take, drop, Option, None, Some, Result, Ok, Err}
use Rattle.byteorder.specs.Endian.{big_number, little_number}
use Rattle.pcap_capture.specs.Grammar.{number}
use Rattle.pcap_capture.specs.declared.heading.Endianness.{Endianness}
use Rattle.pcap_capture.specs.declared.heading.Endianness.TheVariants.{Big, Little}
use Rattle.pcap_capture.specs.Frames.{FrameValue}
use Rattle.pcapng_capture.specs.Blocks.{carried}
use Rattle.pcapng_capture.specs.Options.{interface_in}
use Rattle.pcapng_capture.specs.Packets.{SectionValue, Step, interface_number, simple, stamped}
use Rattle.pcap_capture.specs.declared.fault.PcapFault.{PcapFault}
use Rattle.pcap_capture.specs.declared.fault.PcapFault.TheVariants.{BadMagic, BadVersion, BadLength, BlockTooLong}
use Rattle.pcap_capture.specs.declared.fault.PcapFault.TheVariants.{LengthsDiffer, Truncated, Failed}

-- The byte-order magic of a section header says the order of the section's numbers (section 4.1).
unfoldable pub magic_order : List ℕ → Option Endianness
magic_order bytes =
    if nat_eq (big_number 4 bytes) 0x1a2b3c4d then
    Some Big
    else
    if nat_eq (little_number 4 bytes) 0x1a2b3c4d then Some Little else None

-- The order of the numbers of the block at the front: a section header says its own, and each other block has that of
-- its section. None where there is no section yet, or where the magic says no order.
unfoldable pub order_of : SectionValue → List ℕ → Option Endianness
order_of section bytes =
    if nat_eq (big_number 4 bytes) 0x0a0d0d0a then magic_order (drop 8 bytes) else section.order

-- the fewest bytes of a block of this type: a section header, an interface description, the packet blocks, any other
unfoldable pub least_size : ℕ → ℕ
least_size kind =
    if nat_eq kind 0x0a0d0d0a then 28
    else if nat_eq kind 1 then 20
    else if nat_eq kind 2 || nat_eq kind 6 then 32
    else if nat_eq kind 3 then 16
    else 12

-- the size that a block tells, unless it cannot be one
abbrev pub size_by : ℕ → ℕ → Result ℕ PcapFault
size_by least size =
    if nat_lt 16777216 size then Err (BlockTooLong size)
    else if nat_lt size least || not (nat_eq (size % 4) 0) then Err (BadLength size)
    else Ok size

abbrev pub size_in : List ℕ → Option Endianness → Result ℕ PcapFault
size_in bytes None = Err BadMagic
size_in bytes (Some order) = size_by (least_size (number order 4 bytes)) (number order 4 (drop 4 bytes))

-- The size of the block at the front, as far as it is known: 12 bytes tell it (section 3.1).
unfoldable pub size_of : SectionValue → List ℕ → Result ℕ PcapFault
size_of section bytes = if nat_lt (length bytes) 12 then Ok 12 else size_in bytes (order_of section bytes)

-- a section header starts a section without interfaces (section 4.1)
abbrev pub begun : SectionValue → Endianness → List ℕ → Result Step PcapFault
begun section order own =
    if nat_eq (number order 2 (drop 12 own)) 1 then
    Ok (record { section = record section { order = Some order; interfaces = [] }; block = carried own })
    else Err BadVersion

-- an interface description adds an interface to its section (section 4.2)
abbrev pub described : SectionValue → Endianness → List ℕ → Step
described section order own = record {
  section = record section { interfaces = section.interfaces ++ interface_in order own ∷ [] };
  block = carried own;
}

-- what a block is by its type; one of a type that is not read is carried over
abbrev pub step_by : SectionValue → Endianness → List ℕ → ℕ → Result Step PcapFault
step_by section order own kind =
    if nat_eq kind 0x0a0d0d0a then begun section order own
    else if nat_eq kind 1 then Ok (described section order own)
    else if nat_eq kind 2 || nat_eq kind 6 then stamped section order own (interface_number order kind own)
    else if nat_eq kind 3 then simple section order own
    else Ok (record { section = section; block = carried own })

-- whether the length at a block's end is the block's size
abbrev pub ends_right : Endianness → List ℕ → Bool
ends_right order own = nat_eq (number order 4 (drop (length own - 4) own)) (length own)

abbrev pub step_in : SectionValue → List ℕ → Option Endianness → Result Step PcapFault
step_in section own None = Err BadMagic
step_in section own (Some order) =
    if ends_right order own then step_by section order own (number order 4 own) else Err LengthsDiffer

-- what a block is that has just these bytes
unfoldable pub step_of : SectionValue → List ℕ → Result Step PcapFault
step_of section own = step_in section own (order_of section own)

-- what stands at the front of a list of bytes: less than a block, a fault, or a block and what comes after it
pub data Next : Type 0 where
  Partial : Next
  Bad : PcapFault → Next
  Whole : Step → List ℕ → Next

abbrev pub next_whole : List ℕ → Result Step PcapFault → Next
next_whole after (Err fault) = Bad fault
next_whole after (Ok step) = Whole step after

abbrev pub next_sized : SectionValue → List ℕ → Result ℕ PcapFault → Next
next_sized section bytes (Err fault) = Bad fault
next_sized section bytes (Ok size) =
    if nat_lt (length bytes) size then Partial
    else next_whole (drop size bytes) (step_of section (take size bytes))

unfoldable pub next_of : SectionValue → List ℕ → Next
next_of section bytes = next_sized section bytes (size_of section bytes)

-- a capture that is being read: what was read so far, the bytes that are not yet a block, and whether there was a fault
pub record CaptureState : Type 0 where
  pub section : SectionValue
  pub rest : List ℕ
  pub is_broken : Bool

-- what was read: blocks, the fault that stopped the reading, if any, and how it goes on
pub record Reading : Type 0 where
  pub blocks : List FrameValue
  pub fault : Option PcapFault
  pub state : CaptureState

-- before the first block
abbrev pub no_section : SectionValue
no_section = record { order = None; interfaces = []; newest = 0 }

-- a capture in which a fault was found
abbrev pub broken : CaptureState
broken = record { section = no_section; rest = []; is_broken = true }

abbrev pub stopped : PcapFault → Reading
stopped fault = record { blocks = []; fault = Some fault; state = broken }

abbrev pub waiting : SectionValue → List ℕ → Reading
waiting section rest = record {
  blocks = [];
  fault = None;
  state = record { section = section; rest = rest; is_broken = false };
}

-- more blocks in front
abbrev pub prepend : List FrameValue → Reading → Reading
prepend blocks reading = record reading { blocks = blocks ++ reading.blocks }

-- what stands in a list of bytes, by what stands at its front, once it is known how to read on
abbrev pub from_next : SectionValue → List ℕ → (SectionValue → List ℕ → Reading) → Next → Reading
from_next section bytes read Partial = waiting section bytes
from_next section bytes read (Bad fault) = stopped fault
from_next section bytes read (Whole step after) = prepend (step.block ∷ []) (read step.section after)

-- the blocks of a list of bytes, at most so many
abbrev pub blocks_within : ℕ → SectionValue → List ℕ → Reading
blocks_within zero section bytes = waiting section bytes
blocks_within (suc most) section bytes = from_next section bytes (blocks_within most) (next_of section bytes)

-- all blocks of a list of bytes: there are no more than bytes
unfoldable pub blocks : SectionValue → List ℕ → Reading
blocks section bytes = blocks_within (length bytes) section bytes

-- a capture, as far as its bytes go
abbrev pub capture : List ℕ → Reading
capture bytes = blocks no_section bytes

-- what more bytes make of a capture that is being read
abbrev pub read_on : Bool → SectionValue → List ℕ → Reading
read_on true section bytes = stopped Failed
read_on false section bytes = blocks section bytes

abbrev pub reading : CaptureState → List ℕ → Reading
reading state piece = read_on state.is_broken state.section (state.rest ++ piece)

-- what the end of the bytes makes of it: a fault in the middle of a block, or before the first
abbrev pub ending_by : Bool → Option Endianness → ℕ → Option PcapFault
ending_by true order count = Some Failed
ending_by false None count = Some Truncated
ending_by false (Some order) count = if nat_eq count 0 then None else Some Truncated

abbrev pub ending : CaptureState → Option PcapFault
ending state = ending_by state.is_broken state.section.order (length state.rest)

-- the fault that was found in a reading, or else at its end
abbrev pub fault_after : Option PcapFault → CaptureState → Option PcapFault
fault_after None state = ending state
fault_after (Some fault) state = Some fault

-- the first fault that stands in the bytes of a capture, if any
abbrev pub fault_in : List ℕ → Option PcapFault
fault_in bytes = fault_after (capture bytes).fault (capture bytes).state

-- what more bytes make of a reading: a fault stands
abbrev pub continued_from : Option PcapFault → Reading → List ℕ → Reading
continued_from None read more = prepend read.blocks (reading read.state more)
continued_from (Some fault) read more = read

abbrev pub continued : Reading → List ℕ → Reading
continued read more = continued_from read.fault read more
