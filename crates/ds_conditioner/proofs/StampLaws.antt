-- The stamps of a capture's records are early, and a run stands behind what it sends.
use Rattle.std.proofs.Common.{◌<◌, ◌+◌, ◌-◌, ◌*◌, ◌^◌, ℕ, zero, suc, Bool, true, false, List, [], ◌∷◌, length, drop, Option, None, Some, arith, nat_lt, slice_index, Result, Ok, Err, if◌then◌else◌, All}
use Rattle.std.proofs.lemmas.List.Elements.{All-cons, All-drop, All-nil}
use Rattle.pcap_capture.specs.Frames.{FrameValue}
use Rattle.pcap_capture.specs.Grammar.{Partial, TooLong, Whole, after_heading, capture, captured, frame_of, from_next, heading_of, moment_of, nanoseconds, next_of, number, records, records_within}
use Rattle.pcap_capture.specs.declared.fault.PcapFault.{PcapFault}
use Rattle.pcap_capture.specs.declared.heading.Endianness.{Endianness}
use Rattle.pcap_capture.specs.declared.heading.Endianness.TheVariants.{Big, Little}
use Rattle.pcap_capture.specs.declared.heading.Heading.{Heading}
use Rattle.pcap_capture.specs.declared.heading.TimeUnit.{TimeUnit}
use Rattle.pcap_capture.specs.declared.heading.TimeUnit.TheVariants.{Microseconds, Nanoseconds}
use Rattle.capture_reader.specs.Formats.{capture as whole}
use Rattle.ds_runs.proofs.RunLaws.{the_run_is_behind}
use Rattle.ds_conditioner.specs.Laws.{ARunIsBehindEachCapture, StampsAreEarly, sent_in}
use Rattle.ds_conditioner.proofs.SendableLaws.{frames_can_be_sent}

-- a byte, also behind the end of bytes
byte_at : (bytes : List ℕ) (i : ℕ) → All (λ b. b < 256) bytes → slice_index bytes i < 256
byte_at [] i all = omega arith
byte_at (b ∷ bytes) zero all = all 0 b (omega arith)
byte_at (b ∷ bytes) (suc i) all = byte_at bytes i (λ k d short. all (suc k) d (omega (arith, short)))

-- a number of four bytes
number_of : (order : Endianness) (bytes : List ℕ) → All (λ b. b < 256) bytes → number order 4 bytes < 2 ^ 32
number_of Big bytes all = omega (arith, byte_at bytes 0 all, byte_at bytes 1 all, byte_at bytes 2 all, byte_at bytes 3 all)
number_of Little bytes all = omega (arith, byte_at bytes 0 all, byte_at bytes 1 all, byte_at bytes 2 all, byte_at bytes 3 all)

early : (seconds fraction : ℕ) (unit : TimeUnit) → seconds < 2 ^ 32 → fraction < 2 ^ 32 → seconds * 1000000000 + fraction * nanoseconds unit < 2 ^ 63 - 2 ^ 40
early seconds fraction Microseconds low less = omega (arith, low, less)
early seconds fraction Nanoseconds low less = omega (arith, low, less)

stamp_early : (heading : Heading) (bytes : List ℕ) → All (λ b. b < 256) bytes → moment_of heading bytes < 2 ^ 63 - 2 ^ 40
stamp_early heading bytes all =
    early (number heading.order 4 bytes) (number heading.order 4 (drop 4 bytes)) heading.unit
    (number_of heading.order bytes all) (number_of heading.order (drop 4 bytes) (All-drop (λ b. b < 256) 4 bytes all))

abbrev IsEarly : FrameValue → Type 0
IsEarly f = f.moment < 2 ^ 63 - 2 ^ 40

records_early : (most : ℕ) (heading : Heading) (bytes : List ℕ) → All (λ b. b < 256) bytes → All IsEarly (records_within most heading bytes).frames
unfolding next_of
records_early zero heading bytes all = All-nil IsEarly
records_early (suc most) heading bytes all =
    by (nat_lt (length bytes) 16) (nat_lt 262144 (captured heading bytes)) (nat_lt (length bytes) (16 + captured heading bytes))
    (records_early most heading (drop (16 + captured heading bytes) bytes) (All-drop (λ b. b < 256) (16 + captured heading bytes) bytes all))
  where
    after : List ℕ
    after = drop (16 + captured heading bytes) bytes

    by : (none long cut : Bool) → All IsEarly (records_within most heading after).frames
        → All IsEarly (from_next heading bytes (records_within most heading)
        (if none then Partial else if long then TooLong (captured heading bytes) else if cut then Partial else Whole (frame_of heading bytes) after)).frames
    by true long cut onward = All-nil IsEarly
    by false true cut onward = All-nil IsEarly
    by false false true onward = All-nil IsEarly
    by false false false onward = All-cons IsEarly (frame_of heading bytes) (records_within most heading after).frames (stamp_early heading bytes all) onward

pub stamps_are_early : StampsAreEarly
unfolding capture records
stamps_are_early bytes all = by (heading_of bytes)
  where
    by : (found : Option (Result Heading PcapFault)) → All IsEarly (after_heading bytes found).frames
    by None = All-nil IsEarly
    by (Some (Err fault)) = All-nil IsEarly
    by (Some (Ok heading)) = records_early (length (drop 24 bytes)) heading (drop 24 bytes) (All-drop (λ b. b < 256) 24 bytes all)

pub run_behind_capture : ARunIsBehindEachCapture
run_behind_capture t port bytes good few =
    the_run_is_behind t (sent_in t port bytes) good (frames_can_be_sent t port (whole bytes).frames few)
