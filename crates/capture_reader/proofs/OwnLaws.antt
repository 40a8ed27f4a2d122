-- The faults that stand in a capture are its own, or want of memory, and none of a device.
use Rattle.std.proofs.Common.{◌≡◌, ℕ, Bool, true, false, cond, nat_eq, nat_lt, List, ◌++◌, length, drop, Option, None, Some, Result, Ok, Err, refl, subst, sym, ap, inl, inr}
use Rattle.pcap_capture.specs.Frames.{FrameValue}
use Rattle.pcap_capture.specs.Grammar.{heading_of}
use Rattle.pcap_capture.specs.Takings.{is_own}
use Rattle.pcap_capture.specs.declared.fault.PcapFault.{PcapFault}
use Rattle.pcap_capture.specs.declared.fault.PcapFault.TheVariants.{Truncated, Failed}
use Rattle.pcap_capture.specs.declared.heading.Endianness.{Endianness}
use Rattle.pcap_capture.specs.declared.heading.Heading.{Heading}
use Rattle.pcap_capture.proofs.OwnLaws.{heading_own, own_is, records_own}
use Rattle.pcapng_capture.specs.Grammar as newer
use Rattle.pcapng_capture.specs.Packets.{SectionValue}
use Rattle.pcapng_capture.proofs.OwnLaws.{IsOwn, IsOwnFault, blocks_own, size_own}
use Rattle.capture_reader.specs.Formats.{CaptureState, Reading, Records, Sections, Stage, Stops, Unopened, Broken, after_opening, begins_with_block, capture, ending, ending_at, fault_after, fault_in, headed_by, opened_by, opening_of, prepend, read_on}
use Rattle.capture_reader.specs.Takings.{IsTaken}
use Rattle.capture_reader.specs.declared.opening.Opening.{Opening}
use Rattle.capture_reader.specs.declared.opening.Opening.TheVariants.{Classic, Blocks}

abbrev IsOwnOpening : Option (Result Opening PcapFault) → Type 0
IsOwnOpening None = Unit {0}
IsOwnOpening (Some found) = IsOwn found

opened_own : (count : ℕ) (size : Result ℕ PcapFault) → IsOwn size → IsOwnOpening (opened_by count size)
opened_own count (Err fault) own = own
opened_own count (Ok size) own = by (nat_lt count 12)
  where
    by : (short : Bool) → IsOwnOpening (cond short None (Some (Ok Blocks)))
    by true = tt
    by false = tt

headed_own : (bytes : List ℕ) (head : Option (Result Heading PcapFault)) → heading_of bytes ≡ head → IsOwnOpening (headed_by head)
headed_own bytes None is = tt
headed_own bytes (Some (Err fault)) is = heading_own bytes fault is
headed_own bytes (Some (Ok heading)) is = tt

opening_own : (bytes : List ℕ) → IsOwnOpening (opening_of bytes)
unfolding opening_of
opening_own bytes = by (begins_with_block bytes)
  where
    by : (begins : Bool) → IsOwnOpening (cond begins (opened_by (length bytes) (newer.size_of newer.no_section bytes)) (headed_by (heading_of bytes)))
    by true = opened_own (length bytes) (newer.size_of newer.no_section bytes) (size_own newer.no_section bytes)
    by false = headed_own bytes (heading_of bytes) refl

some_own : (section : SectionValue) (bytes : List ℕ) (fault : PcapFault) → (newer.blocks section bytes).fault ≡ Some fault → is_own fault ≡ true
some_own section bytes fault h = subst IsOwnFault h (blocks_own section bytes)

behind_own : (bytes : List ℕ) (found : Option (Result Opening PcapFault)) (fault : PcapFault) → opening_of bytes ≡ found → (after_opening bytes found).fault ≡ Some fault → is_own fault ≡ true
behind_own bytes None fault e h = cc
behind_own bytes (Some (Err other)) fault e h = own_is other fault (subst IsOwnOpening e (opening_own bytes)) h
behind_own bytes (Some (Ok (Classic heading))) fault e h = records_own heading (drop 24 bytes) fault h
behind_own bytes (Some (Ok Blocks)) fault e h = some_own newer.no_section bytes fault h

capture_own : (bytes : List ℕ) (fault : PcapFault) → (capture bytes).fault ≡ Some fault → is_own fault ≡ true
unfolding capture
capture_own bytes fault h = behind_own bytes (opening_of bytes) fault refl h

cut_own : (none : Bool) (fault : PcapFault) → cond none None (Some Truncated) ≡ Some fault → is_own fault ≡ true
cut_own true fault h = cc
cut_own false fault h = own_is Truncated fault refl h

section_own : (order : Option Endianness) (count : ℕ) (fault : PcapFault) → newer.ending_by false order count ≡ Some fault → is_own fault ≡ true
section_own None count fault h = own_is Truncated fault refl h
section_own (Some order) count fault h = cut_own (nat_eq count 0) fault h

ending_own_at : (stage : Stage) (count : ℕ) (fault : PcapFault) → ending_at stage count ≡ Some fault → is_own fault ≡ true
ending_own_at Unopened count fault h = own_is Truncated fault refl h
ending_own_at (Records heading) count fault h = cut_own (nat_eq count 0) fault h
ending_own_at (Sections section) count fault h = section_own section.order count fault h
ending_own_at Broken count fault h = own_is Failed fault refl h

pub ending_own : (state : CaptureState) (fault : PcapFault) → ending state ≡ Some fault → is_own fault ≡ true
ending_own state fault h = ending_own_at state.stage (length state.rest) fault h

after_own : (found : Option PcapFault) (state : CaptureState) (fault : PcapFault) → (found ≡ Some fault → is_own fault ≡ true) → (ending state ≡ Some fault → is_own fault ≡ true)
    → fault_after found state ≡ Some fault → is_own fault ≡ true
after_own None state fault own last h = last h
after_own (Some found) state fault own last h = own h

-- a fault that stands in a capture is none of a device
pub fault_in_own : (bytes : List ℕ) (fault : PcapFault) → fault_in bytes ≡ Some fault → is_own fault ≡ true
fault_in_own bytes fault h =
    after_own (capture bytes).fault (capture bytes).state fault (λ e. capture_own bytes fault e) (λ e. ending_own (capture bytes).state fault e) h

read_on_own : (stage : Stage) (bytes : List ℕ) (fault : PcapFault) → (read_on stage bytes).fault ≡ Some fault → is_own fault ≡ true
read_on_own Unopened bytes fault h = capture_own bytes fault h
read_on_own (Records heading) bytes fault h = records_own heading bytes fault h
read_on_own (Sections section) bytes fault h = some_own section bytes fault h
read_on_own Broken bytes fault h = own_is Failed fault refl h

-- a fault that stops a reading is none of a device
pub stops_own : (stage : Stage) (bytes : List ℕ) (before frames : List FrameValue) (fault : PcapFault)
    → Stops (prepend before (read_on stage bytes)) frames fault → is_own fault ≡ true
stops_own stage bytes before frames fault (inl found) = read_on_own stage bytes fault (sym (ap (λ (r : Reading). r.fault) found))
stops_own stage bytes before frames fault (inr memory) = ap is_own memory.0

pub taken_unread : (tells : Type 0) (most : ℕ) (left more : List ℕ) (old new : CaptureState) (there frames : List FrameValue) (fault : PcapFault)
    → IsTaken tells most left more old new there frames (Some fault) → is_own fault ≡ true
taken_unread tells most left more old new there frames fault it = stops_own old.stage (old.rest ++ it.piece) there frames fault it.read.1
