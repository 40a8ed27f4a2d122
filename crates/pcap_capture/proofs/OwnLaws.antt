-- The faults that stand in a capture are its own, or want of memory, and none of a device.
use Rattle.std.proofs.Common.{◌≡◌, ℕ, zero, suc, Bool, true, false, cond, List, ◌++◌, length, drop, Option, None, Some, Result, Ok, Err, refl, sym, ◌∙◌, ap, inl, inr}
use Rattle.pcap_capture.specs.Frames.{FrameValue}
use Rattle.pcap_capture.specs.Grammar.{CaptureState, Next, Partial, TooLong, Whole, Reading, Stops, after_heading, after_magic, capture, ending, fault_after, fault_in, from_next, has_version, heading_of, link_number, link_of, linked, magic_of, next_of, prepend, read_on, reading, records, records_within, versioned}
use Rattle.pcap_capture.specs.Takings.{is_own, is_read_fault}
use Rattle.pcap_capture.specs.declared.fault.PcapFault.{PcapFault}
use Rattle.pcap_capture.specs.declared.fault.PcapFault.TheVariants as pcaps
use Rattle.pcap_capture.specs.declared.fault.PcapFault.TheVariants.{NotPcap, IsPcapng, BadVersion, RecordTooLong, Failed, Truncated}
use Rattle.pcap_capture.specs.declared.heading.Endianness.{Endianness}
use Rattle.pcap_capture.specs.declared.heading.Heading.{Heading}
use Rattle.pcap_capture.specs.declared.heading.LinkType.{LinkType}
use Rattle.pcap_capture.specs.declared.heading.TimeUnit.{TimeUnit}
use Rattle.pcap_capture.specs.declared.stage.Stage.{Stage}
use Rattle.pcap_capture.specs.declared.stage.Stage.TheVariants.{Opening, Records, Broken}

some_is : {T : Type 0} (a b : T) → Some a ≡ Some b → a ≡ b
some_is a b h = cc

-- a fault that is an own one
pub own_is : (found fault : PcapFault) → is_own found ≡ true → Some found ≡ Some fault → is_own fault ≡ true
own_is found fault own h = ap is_own (sym (some_is found fault h)) ∙ own

next_own : (heading : Heading) (bytes : List ℕ) (read : List ℕ → Reading) (next : Next) (fault : PcapFault)
    → ((after : List ℕ) → (read after).fault ≡ Some fault → is_own fault ≡ true) → (from_next heading bytes read next).fault ≡ Some fault → is_own fault ≡ true
next_own heading bytes read Partial fault own h = cc
next_own heading bytes read (TooLong count) fault own h = own_is (RecordTooLong count) fault refl h
next_own heading bytes read (Whole frame after) fault own h = own after h

within_own : (n : ℕ) (heading : Heading) (bytes : List ℕ) (fault : PcapFault) → (records_within n heading bytes).fault ≡ Some fault → is_own fault ≡ true
within_own zero heading bytes fault h = cc
within_own (suc n) heading bytes fault h = next_own heading bytes (records_within n heading) (next_of heading bytes) fault (λ after. within_own n heading after fault) h

pub records_own : (heading : Heading) (bytes : List ℕ) (fault : PcapFault) → (records heading bytes).fault ≡ Some fault → is_own fault ≡ true
unfolding records
records_own heading bytes fault h = within_own (length bytes) heading bytes fault h

abbrev refused : PcapFault → Result Heading PcapFault
refused fault = Err fault

err_is : (found fault : PcapFault) → is_own found ≡ true → refused found ≡ Err fault → is_own fault ≡ true
err_is found fault own h = own_is found fault own cc

linked_own : (order : Endianness) (unit : TimeUnit) (bytes : List ℕ) (link : Option LinkType) (fault : PcapFault) → linked order unit bytes link ≡ Err fault → is_own fault ≡ true
linked_own order unit bytes None fault h = err_is (pcaps.LinkType (link_number order bytes)) fault refl h
linked_own order unit bytes (Some link) fault h = cc

versioned_own : (right : Bool) (linked : Result Heading PcapFault) (fault : PcapFault) → (linked ≡ Err fault → is_own fault ≡ true)
    → cond right linked (refused BadVersion) ≡ Err fault → is_own fault ≡ true
versioned_own true linked fault own h = own h
versioned_own false linked fault own h = err_is BadVersion fault refl h

no_magic_own : (newer : Bool) (fault : PcapFault) → Some (refused (cond newer IsPcapng NotPcap)) ≡ Some (Err fault) → is_own fault ≡ true
no_magic_own true fault h = err_is IsPcapng fault refl (some_is (refused IsPcapng) (refused fault) h)
no_magic_own false fault h = err_is NotPcap fault refl (some_is (refused NotPcap) (refused fault) h)

waited : (short : Bool) (found : Option (Result Heading PcapFault)) (fault : PcapFault) → (found ≡ Some (Err fault) → is_own fault ≡ true)
    → cond short None found ≡ Some (Err fault) → is_own fault ≡ true
waited true found fault own h = cc
waited false found fault own h = own h

magic_own : (bytes : List ℕ) (magic : Option (Endianness × TimeUnit)) (fault : PcapFault) → after_magic bytes magic ≡ Some (Err fault) → is_own fault ≡ true
magic_own bytes None fault h = no_magic_own _ fault h
magic_own bytes (Some magic) fault h =
    waited _ (Some (versioned magic.0 magic.1 bytes)) fault (λ e.
    versioned_own (has_version magic.0 bytes) (linked magic.0 magic.1 bytes (link_of (link_number magic.0 bytes))) fault
    (linked_own magic.0 magic.1 bytes (link_of (link_number magic.0 bytes)) fault)
    (some_is (versioned magic.0 magic.1 bytes) (refused fault) e)) h

pub heading_own : (bytes : List ℕ) (fault : PcapFault) → heading_of bytes ≡ Some (Err fault) → is_own fault ≡ true
unfolding heading_of
heading_own bytes fault h = waited _ (after_magic bytes (magic_of bytes)) fault (magic_own bytes (magic_of bytes) fault) h

behind_own : (bytes : List ℕ) (found : Option (Result Heading PcapFault)) (fault : PcapFault) → heading_of bytes ≡ found → (after_heading bytes found).fault ≡ Some fault → is_own fault ≡ true
behind_own bytes None fault e h = cc
behind_own bytes (Some (Err other)) fault e h = own_is other fault (heading_own bytes other e) h
behind_own bytes (Some (Ok heading)) fault e h = records_own heading (drop 24 bytes) fault h

capture_own : (bytes : List ℕ) (fault : PcapFault) → (capture bytes).fault ≡ Some fault → is_own fault ≡ true
unfolding capture
capture_own bytes fault h = behind_own bytes (heading_of bytes) fault refl h

cut_own : (none : Bool) (fault : PcapFault) → cond none None (Some Truncated) ≡ Some fault → is_own fault ≡ true
cut_own true fault h = cc
cut_own false fault h = own_is Truncated fault refl h

ending_own_at : (stage : Stage) (rest : List ℕ) (fault : PcapFault) → ending (record { stage = stage; rest = rest }) ≡ Some fault → is_own fault ≡ true
ending_own_at Opening rest fault h = own_is Truncated fault refl h
ending_own_at (Records heading) rest fault h = cut_own _ fault h
ending_own_at Broken rest fault h = own_is Failed fault refl h

ending_own : (state : CaptureState) (fault : PcapFault) → ending state ≡ Some fault → is_own fault ≡ true
ending_own state fault h = ending_own_at state.stage state.rest fault h

after_own : (found : Option PcapFault) (state : CaptureState) (fault : PcapFault) → (found ≡ Some fault → is_own fault ≡ true) → (ending state ≡ Some fault → is_own fault ≡ true)
    → fault_after found state ≡ Some fault → is_own fault ≡ true
after_own None state fault own last h = last h
after_own (Some found) state fault own last h = own h

-- a fault that stands in a capture is none of a device
pub fault_in_own : (bytes : List ℕ) (fault : PcapFault) → fault_in bytes ≡ Some fault → is_own fault ≡ true
fault_in_own bytes fault h =
    after_own (capture bytes).fault (capture bytes).state fault (λ e. capture_own bytes fault e) (λ e. ending_own (capture bytes).state fault e) h

read_on_own : (stage : Stage) (bytes : List ℕ) (fault : PcapFault) → (read_on stage bytes).fault ≡ Some fault → is_own fault ≡ true
read_on_own Opening bytes fault h = capture_own bytes fault h
read_on_own (Records heading) bytes fault h = records_own heading bytes fault h
read_on_own Broken bytes fault h = own_is Failed fault refl h

-- a fault that stops the reading of a piece is none of a device
pub stops_own : (state : CaptureState) (piece : List ℕ) (before frames : List FrameValue) (fault : PcapFault)
    → Stops (prepend before (reading state piece)) frames fault → is_own fault ≡ true
stops_own state piece before frames fault (inl found) =
    read_on_own state.stage (state.rest ++ piece) fault (sym (ap (λ (r : Reading). r.fault) found))
stops_own state piece before frames fault (inr memory) = ap is_own memory.0

pub own_unread : (fault : PcapFault) → is_own fault ≡ true → is_read_fault {T = ℕ} (Err fault) ≡ false
own_unread pcaps.NotPcap own = refl
own_unread pcaps.IsPcapng own = refl
own_unread pcaps.BadVersion own = refl
own_unread (pcaps.LinkType number) own = refl
own_unread (pcaps.RecordTooLong count) own = refl
own_unread pcaps.Truncated own = refl
own_unread pcaps.ReadFault own = absurd cc
own_unread pcaps.WriteFault own = refl
own_unread pcaps.NoMemory own = refl
own_unread pcaps.Failed own = refl
own_unread pcaps.BadMagic own = refl
own_unread (pcaps.BadLength size) own = refl
own_unread (pcaps.BlockTooLong size) own = refl
own_unread pcaps.LengthsDiffer own = refl
own_unread (pcaps.UnknownInterface number) own = refl
