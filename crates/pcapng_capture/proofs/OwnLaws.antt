-- The faults that stand in a capture are its own, or want of memory, and none of a device.
use Rattle.std.proofs.Common.{◌≡◌, ℕ, zero, suc, Bool, true, false, cond, ◌||◌, nat_eq, nat_lt, ◌+◌, List, [], length, drop, take, Option, None, Some, Result, Ok, Err, refl, subst, sym, ap, inl, inr}
use Rattle.std.specs.List.{slice_get}
use Rattle.pcap_capture.specs.Grammar.{number}
use Rattle.pcap_capture.specs.declared.heading.Endianness.{Endianness}
use Rattle.pcap_capture.specs.Frames.{FrameValue}
use Rattle.pcapng_capture.specs.Blocks.{carried}
use Rattle.pcapng_capture.specs.Grammar.{Next, Partial, Bad, Whole, Reading, begun, blocks, blocks_within, described, ends_right, from_next, next_of, next_sized, next_whole, order_of, prepend, size_in, size_of, step_by, step_in, step_of}
use Rattle.pcapng_capture.specs.Packets.{SectionValue, Step, captured, interface_number, simple, simple_by, stamped, stamped_by}
use Rattle.pcapng_capture.specs.Readings.{Stops}
use Rattle.pcap_capture.specs.Takings.{is_own}
use Rattle.pcap_capture.specs.declared.fault.PcapFault.{PcapFault}
use Rattle.pcap_capture.specs.declared.fault.PcapFault.TheVariants.{BadVersion, BadLength, BlockTooLong, LengthsDiffer}
use Rattle.pcapng_capture.specs.declared.interface.Interface.{Interface}

-- an answer that tells no fault of a device
abbrev pub IsOwn : {T : Type 0} → Result T PcapFault → Type 0
IsOwn (Ok value) = Unit {0}
IsOwn (Err fault) = is_own fault ≡ true

size_by_own : (long bad : Bool) (told : ℕ) → IsOwn {T = ℕ} (cond long (Err (BlockTooLong told)) (cond bad (Err (BadLength told)) (Ok told)))
size_by_own true bad told = refl
size_by_own false true told = refl
size_by_own false false told = tt

size_in_own : (bytes : List ℕ) (order : Option Endianness) → IsOwn (size_in bytes order)
size_in_own bytes None = refl
size_in_own bytes (Some order) = size_by_own _ _ (number order 4 (drop 4 bytes))

short_own : (short : Bool) (known : Result ℕ PcapFault) → IsOwn known → IsOwn (cond short (Ok 12) known)
short_own true known own = tt
short_own false known own = own

pub size_own : (section : SectionValue) (bytes : List ℕ) → IsOwn (size_of section bytes)
unfolding size_of
size_own section bytes = short_own (nat_lt (length bytes) 12) (size_in bytes (order_of section bytes)) (size_in_own bytes (order_of section bytes))

module _ (section : SectionValue) (order : Endianness) (own : List ℕ) where
  begun_by : (right : Bool) (step : Step) → IsOwn {T = Step} (cond right (Ok step) (Err BadVersion))
  begun_by true step = tt
  begun_by false step = refl

  stamped_by_own : (n : ℕ) (interface : Option Interface) → IsOwn (stamped_by section order own n interface)
  stamped_by_own n None = refl
  stamped_by_own n (Some interface) = tt

  cut_own : (cut : Bool) (size : ℕ) (made : Result Step PcapFault) → IsOwn made → IsOwn (cond cut (Err (BadLength size)) made)
  cut_own true size made own = refl
  cut_own false size made own = own

  stamped_own : (n : ℕ) → IsOwn (stamped section order own n)
  stamped_own n = cut_own (nat_lt (length own) (32 + captured order own)) (length own) (stamped_by section order own n (slice_get section.interfaces n)) (stamped_by_own n (slice_get section.interfaces n))

  simple_own : (interface : Option Interface) → IsOwn (simple_by section order own interface)
  simple_own None = refl
  simple_own (Some interface) = tt

  either_own : (is : Bool) (one other : Result Step PcapFault) → IsOwn one → IsOwn other → IsOwn (cond is one other)
  either_own true one other h k = h
  either_own false one other h k = k

  kind_by : (a b c d : Bool) (header stamp simple : Result Step PcapFault) (made other : Step) → IsOwn header → IsOwn stamp → IsOwn simple
      → IsOwn {T = Step} (cond a header (cond b (Ok made) (cond c stamp (cond d simple (Ok other)))))
  kind_by true b c d header stamp simple made other h k l = h
  kind_by false true c d header stamp simple made other h k l = tt
  kind_by false false true d header stamp simple made other h k l = k
  kind_by false false false true header stamp simple made other h k l = l
  kind_by false false false false header stamp simple made other h k l = tt

  kind_own : (kind : ℕ) → IsOwn (step_by section order own kind)
  kind_own kind =
      kind_by (nat_eq kind 0x0a0d0d0a) (nat_eq kind 1) (nat_eq kind 2 || nat_eq kind 6) (nat_eq kind 3)
      (begun section order own) (stamped section order own (interface_number order kind own)) (simple section order own)
      (described section order own) (record { section = section; block = carried own })
      (begun_by (nat_eq (number order 2 (drop 12 own)) 1) (record { section = record section { order = Some order; interfaces = [] }; block = carried own }))
      (stamped_own (interface_number order kind own)) (simple_own (slice_get section.interfaces 0))

step_in_own : (section : SectionValue) (own : List ℕ) (order : Option Endianness) → IsOwn (step_in section own order)
step_in_own section own None = refl
step_in_own section own (Some order) = either_own section order own (ends_right order own) (step_by section order own (number order 4 own)) (Err LengthsDiffer) (kind_own section order own (number order 4 own)) refl

step_own : (section : SectionValue) (own : List ℕ) → IsOwn (step_of section own)
unfolding step_of
step_own section own = step_in_own section own (order_of section own)

-- what stands at the front
abbrev IsOwnNext : Next → Type 0
IsOwnNext Partial = Unit {0}
IsOwnNext (Bad fault) = is_own fault ≡ true
IsOwnNext (Whole step after) = Unit {0}

whole_own : (after : List ℕ) (made : Result Step PcapFault) → IsOwn made → IsOwnNext (next_whole after made)
whole_own after (Err fault) own = own
whole_own after (Ok step) own = tt

there_own : (short : Bool) (next : Next) → IsOwnNext next → IsOwnNext (cond short Partial next)
there_own true next own = tt
there_own false next own = own

sized_own : (section : SectionValue) (bytes : List ℕ) (size : Result ℕ PcapFault) → IsOwn size → IsOwnNext (next_sized section bytes size)
sized_own section bytes (Err fault) own = own
sized_own section bytes (Ok size) own =
    there_own (nat_lt (length bytes) size) (next_whole (drop size bytes) (step_of section (take size bytes))) (whole_own (drop size bytes) (step_of section (take size bytes)) (step_own section (take size bytes)))

next_own : (section : SectionValue) (bytes : List ℕ) → IsOwnNext (next_of section bytes)
unfolding next_of
next_own section bytes = sized_own section bytes (size_of section bytes) (size_own section bytes)

-- what was read
abbrev pub IsOwnFault : Option PcapFault → Type 0
IsOwnFault None = Unit {0}
IsOwnFault (Some fault) = is_own fault ≡ true

from_own : (section : SectionValue) (bytes : List ℕ) (read : SectionValue → List ℕ → Reading) (next : Next) → IsOwnNext next
    → ((step : Step) (after : List ℕ) → next ≡ Whole step after → IsOwnFault (read step.section after).fault) → IsOwnFault (from_next section bytes read next).fault
from_own section bytes read Partial own behind = tt
from_own section bytes read (Bad fault) own behind = own
from_own section bytes read (Whole step after) own behind = behind step after refl

within_own : (n : ℕ) (section : SectionValue) (bytes : List ℕ) → IsOwnFault (blocks_within n section bytes).fault
within_own zero section bytes = tt
within_own (suc n) section bytes =
    from_own section bytes (blocks_within n) (next_of section bytes) (next_own section bytes) (λ step after is. within_own n step.section after)

pub blocks_own : (section : SectionValue) (bytes : List ℕ) → IsOwnFault (blocks section bytes).fault
unfolding blocks
blocks_own section bytes = within_own (length bytes) section bytes

-- a fault that stops the reading of blocks is none of a device
pub stops_own_by : (fault : PcapFault) (before now : List FrameValue) (section : SectionValue) (bytes : List ℕ)
    → Stops (prepend before (blocks section bytes)) now fault → is_own fault ≡ true
stops_own_by fault before now section bytes (inl found) = subst IsOwnFault (sym (ap (λ (r : Reading). r.fault) found)) (blocks_own section bytes)
stops_own_by fault before now section bytes (inr memory) = ap is_own memory.0
