-- However a capture is cut, in either format, its frames and its fault are the same.
use Rattle.std.proofs.Common.{◌≡◌, ◌≢◌, ℕ, ◌<◌, ◌≤◌, zero, suc, Bool, true, false, cond, nat_eq, nat_lt, List, [], ◌++◌, length, drop, Option, None, Some, Result, Ok, Err, append_assoc, length-append, refl, sym, ◌∙◌, ap, inl, inr, arith, drop_of_length-le}
use Rattle.std.proofs.lemmas.Bool.{and_parts, cases_lt}
use Rattle.std.proofs.lemmas.Bool.Decides.{nat_tests}
use Rattle.std.proofs.lemmas.List.{drop-append-le}
use Rattle.byteorder.specs.Endian.{big_number, little_number}
use Rattle.byteorder.specs.Numbers.{big_from-append, little_from-append}
use Rattle.pcap_capture.specs.Frames.{FrameValue}
use Rattle.pcap_capture.specs.Grammar as classic
use Rattle.pcap_capture.specs.Grammar.{heading_of, number}
use Rattle.pcap_capture.specs.declared.fault.PcapFault.{PcapFault}
use Rattle.pcap_capture.specs.declared.heading.Endianness.{Endianness}
use Rattle.pcap_capture.specs.declared.heading.Endianness.TheVariants.{Big, Little}
use Rattle.pcap_capture.specs.declared.heading.Heading.{Heading}
use Rattle.pcap_capture.specs.declared.stage.Stage.{Stage as ClassicStage}
use Rattle.pcap_capture.specs.declared.stage.Stage.TheVariants as stages
use Rattle.pcap_capture.proofs.CutLaws.{records-cut}
use Rattle.pcap_capture.proofs.GrammarLaws.{is_less, is_not_less}
use Rattle.pcap_capture.proofs.HeadingLaws.{heading-append, heading_read, heading_waits}
use Rattle.pcapng_capture.specs.Grammar as newer
use Rattle.pcapng_capture.specs.Grammar.{least_size, order_of}
use Rattle.pcapng_capture.specs.Packets.{SectionValue}
use Rattle.pcapng_capture.proofs.CutLaws.{blocks-cut}
use Rattle.pcapng_capture.proofs.GrammarLaws.{blocks_by, next_partial, size-append, size_in_is, size_long, size_short}
use Rattle.capture_reader.specs.Formats.{CaptureState, IsSoFar, Reading, Records, Sections, Stage, Unopened, Broken, after_opening, begins_with_block, capture, classic_stage, continued, continued_from, ending, fault_after, fault_in, headed_by, newer_stage, of_blocks, of_records, opened_by, opening_of, prepend, read_on, reading, waiting}
use Rattle.capture_reader.specs.declared.opening.Opening.{Opening}
use Rattle.capture_reader.specs.declared.opening.Opening.TheVariants.{Classic, Blocks}

-- ---- what stands before the first frame

abbrev found : Result Opening PcapFault → Option (Result Opening PcapFault)
found r = Some r

begins-append : (xs ys : List ℕ) → 4 ≤ length xs → begins_with_block (xs ++ ys) ≡ begins_with_block xs
unfolding begins_with_block
begins-append xs ys h =
    let big = big_from-append 4 xs ys h in
    let little = little_from-append 4 xs ys h in
    let long : nat_lt 3 (length (xs ++ ys)) ≡ true = is_less 3 (length (xs ++ ys)) (omega (arith, length-append xs ys)) in
    let was : nat_lt 3 (length xs) ≡ true = is_less 3 (length xs) (omega arith) in
    rw (long, was, big, little) refl

more_than : (count : ℕ) → nat_lt 3 count ≡ true → 4 ≤ count
more_than count h = grind (arith, nat_tests)

same_number : (a b : ℕ) → nat_eq a b ≡ true → a ≡ b
same_number a b h = grind (arith, nat_tests)

-- the first four bytes of the newer format
record IsBlock (bytes : List ℕ) : Type 0 where
  long : 4 ≤ length bytes
  big : big_number 4 bytes ≡ 0x0a0d0d0a
  little : little_number 4 bytes ≡ 0x0a0d0d0a

block_begins : (bytes : List ℕ) → begins_with_block bytes ≡ true → IsBlock bytes
unfolding begins_with_block
block_begins bytes h =
    let parts = and_parts (nat_lt 3 (length bytes)) _ h in
    let numbers = and_parts (nat_eq (big_number 4 bytes) 0x0a0d0d0a) _ parts.1 in
    record { long = more_than (length bytes) parts.0; big = same_number (big_number 4 bytes) 0x0a0d0d0a numbers.0; little = same_number (little_number 4 bytes) 0x0a0d0d0a numbers.1 }

block_opening : (bytes : List ℕ) → begins_with_block bytes ≡ true → opening_of bytes ≡ opened_by (length bytes) (newer.size_of newer.no_section bytes)
unfolding opening_of
block_opening bytes h = rw h refl

record_opening : (bytes : List ℕ) → begins_with_block bytes ≡ false → opening_of bytes ≡ headed_by (heading_of bytes)
unfolding opening_of
record_opening bytes h = rw h refl

heading_short : (bytes : List ℕ) → length bytes < 4 → heading_of bytes ≡ None
unfolding heading_of
heading_short bytes h = rw (is_less (length bytes) 4 h) refl

-- once it is known, the first block has its twelve bytes
opened_long : (count : ℕ) (size : Result ℕ PcapFault) (r : Result Opening PcapFault) → (count < 12 → size ≡ Ok 12) → opened_by count size ≡ Some r → 12 ≤ count
opened_long count size r short h = elim (cases_lt count 12) [
  | inl less ↦
      let none : opened_by count size ≡ None = ap (opened_by count) (short less) ∙ by_count (is_less count 12 less) in
      absurd cc
  | inr long ↦ long
]
  where
    by_count : nat_lt count 12 ≡ true → opened_by count (Ok 12) ≡ None
    by_count is = rw is refl

opened_same : (one other : ℕ) (size : Result ℕ PcapFault) → 12 ≤ one → 12 ≤ other → opened_by one size ≡ opened_by other size
opened_same one other (Err fault) h k = refl
opened_same one other (Ok size) h k = rw (is_not_less one 12 h, is_not_less other 12 k) refl

block_stays : (xs ys : List ℕ) (r : Result Opening PcapFault) → begins_with_block xs ≡ true → opening_of xs ≡ Some r → opening_of (xs ++ ys) ≡ Some r
block_stays xs ys r begins h =
    let size = newer.size_of newer.no_section xs in
    let was : opened_by (length xs) size ≡ Some r = sym (block_opening xs begins) ∙ h in
    let long = opened_long (length xs) size r (size_short newer.no_section xs) was in
    block_opening (xs ++ ys) (begins-append xs ys (block_begins xs begins).long ∙ begins)
    ∙ ap (opened_by (length (xs ++ ys))) (size-append newer.no_section xs ys long)
    ∙ opened_same (length (xs ++ ys)) (length xs) size (omega (arith, long, length-append xs ys)) long ∙ was

headed_stays : (xs ys : List ℕ) (head : Option (Result Heading PcapFault)) (r : Result Opening PcapFault) → heading_of xs ≡ head → headed_by head ≡ Some r → headed_by (heading_of (xs ++ ys)) ≡ Some r
headed_stays xs ys None r is h = absurd cc
headed_stays xs ys (Some (Err fault)) r is h = ap headed_by (heading-append xs ys (Err fault) is) ∙ h
headed_stays xs ys (Some (Ok heading)) r is h = ap headed_by (heading-append xs ys (Ok heading) is) ∙ h

record_stays : (xs ys : List ℕ) (r : Result Opening PcapFault) → begins_with_block xs ≡ false → opening_of xs ≡ Some r → opening_of (xs ++ ys) ≡ Some r
record_stays xs ys r begins h = elim (cases_lt (length xs) 4) [
  | inl short ↦
      let none : opening_of xs ≡ None = record_opening xs begins ∙ ap headed_by (heading_short xs short) in
      absurd cc
  | inr long ↦ record_opening (xs ++ ys) (begins-append xs ys long ∙ begins) ∙ headed_stays xs ys (heading_of xs) r refl (sym (record_opening xs begins) ∙ h)
]

-- what stands before the first frame stays when bytes come behind it
pub opening-append : (xs ys : List ℕ) (r : Result Opening PcapFault) → opening_of xs ≡ Some r → opening_of (xs ++ ys) ≡ Some r
opening-append xs ys r h = by (begins_with_block xs) refl
  where
    by : (begins : Bool) → begins_with_block xs ≡ begins → opening_of (xs ++ ys) ≡ Some r
    by true is = block_stays xs ys r is h
    by false is = record_stays xs ys r is h

opened_waits : (count : ℕ) (size : Result ℕ PcapFault) → opened_by count size ≡ None → count < 12
opened_waits count (Err fault) h = absurd cc
opened_waits count (Ok size) h = elim (cases_lt count 12) [
  | inl less ↦ less
  | inr long ↦ let some : opened_by count (Ok size) ≡ Some (Ok Blocks) = by_count (is_not_less count 12 long) in absurd cc
]
  where
    by_count : nat_lt count 12 ≡ false → opened_by count (Ok size) ≡ Some (Ok Blocks)
    by_count is = rw is refl

headed_waits : (bytes : List ℕ) (head : Option (Result Heading PcapFault)) → heading_of bytes ≡ head → headed_by head ≡ None → length bytes < 24
headed_waits bytes None is h = heading_waits bytes is
headed_waits bytes (Some (Err fault)) is h = absurd cc
headed_waits bytes (Some (Ok heading)) is h = absurd cc

-- it is known once there are as many bytes as of a heading
pub opening_waits : (bytes : List ℕ) → opening_of bytes ≡ None → length bytes < 24
opening_waits bytes h = by (begins_with_block bytes) refl
  where
    by : (begins : Bool) → begins_with_block bytes ≡ begins → length bytes < 24
    by true is = let few = opened_waits (length bytes) (newer.size_of newer.no_section bytes) (sym (block_opening bytes is) ∙ h) in omega (arith, few)
    by false is = headed_waits bytes (heading_of bytes) refl (sym (record_opening bytes is) ∙ h)

opened_classic : (count : ℕ) (size : Result ℕ PcapFault) (heading : Heading) → opened_by count size ≡ Some (Ok (Classic heading)) → ⊥
opened_classic count (Err fault) heading h = cc
opened_classic count (Ok size) heading h = by (nat_lt count 12) h
  where
    by : (short : Bool) → cond short None (found (Ok Blocks)) ≡ Some (Ok (Classic heading)) → ⊥
    by true e = cc
    by false e = cc

headed_classic : (head : Option (Result Heading PcapFault)) (heading : Heading) → headed_by head ≡ Some (Ok (Classic heading)) → head ≡ Some (Ok heading)
headed_classic None heading h = absurd cc
headed_classic (Some (Err fault)) heading h = absurd cc
headed_classic (Some (Ok other)) heading h = let same : other ≡ heading = cc in ap (λ (o : Heading). Some (Ok o)) same

-- a heading that is told stands there
pub classic_headed : (bytes : List ℕ) (heading : Heading) → opening_of bytes ≡ Some (Ok (Classic heading)) → heading_of bytes ≡ Some (Ok heading)
classic_headed bytes heading h = by (begins_with_block bytes) refl
  where
    by : (begins : Bool) → begins_with_block bytes ≡ begins → heading_of bytes ≡ Some (Ok heading)
    by true is = absurd (opened_classic (length bytes) (newer.size_of newer.no_section bytes) heading (sym (block_opening bytes is) ∙ h))
    by false is = headed_classic (heading_of bytes) heading (sym (record_opening bytes is) ∙ h)

headed_blocks : (head : Option (Result Heading PcapFault)) → headed_by head ≡ Some (Ok Blocks) → ⊥
headed_blocks None h = cc
headed_blocks (Some (Err fault)) h = cc
headed_blocks (Some (Ok heading)) h = cc

opened_size : (count : ℕ) (size : Result ℕ PcapFault) → opened_by count size ≡ Some (Ok Blocks) → (told : ℕ) × (size ≡ Ok told)
opened_size count (Err fault) h = absurd cc
opened_size count (Ok size) h = (size, refl)

header_number : (order : Endianness) (bytes : List ℕ) → IsBlock bytes → number order 4 bytes ≡ 0x0a0d0d0a
header_number Big bytes is = is.big
header_number Little bytes is = is.little

header_least : (kind : ℕ) → kind ≡ 0x0a0d0d0a → least_size kind ≡ 28
unfolding least_size
header_least kind is = rw is refl

-- the first block of the newer format has more bytes than a heading
block_long : (bytes : List ℕ) (size : ℕ) → IsBlock bytes → 12 ≤ length bytes → newer.size_of newer.no_section bytes ≡ Ok size → 28 ≤ size
block_long bytes size is long told =
    let known = size_in_is bytes (order_of newer.no_section bytes) size (sym (size_long newer.no_section bytes long) ∙ told) in
    let least = header_least (number known.0 4 bytes) (header_number known.0 bytes is) in
    let bound = known.2.least in
    omega (arith, least, bound)

no_blocks_yet : (bytes : List ℕ) → begins_with_block bytes ≡ true → opening_of bytes ≡ Some (Ok Blocks) → length bytes ≤ 24 → (newer.blocks newer.no_section bytes).fault ≡ None
no_blocks_yet bytes begins h few =
    let size = newer.size_of newer.no_section bytes in
    let was : opened_by (length bytes) size ≡ Some (Ok Blocks) = sym (block_opening bytes begins) ∙ h in
    let long = opened_long (length bytes) size (Ok Blocks) (size_short newer.no_section bytes) was in
    let told = opened_size (length bytes) size was in
    let least = block_long bytes told.0 (block_begins bytes begins) long told.1 in
    ap (λ (r : newer.Reading). r.fault) (blocks_by newer.no_section bytes newer.Partial (next_partial newer.no_section bytes told.0 told.1 (omega (arith, least, few))))

-- where nothing stands behind a heading, there is no fault
records_none : (heading : Heading) (bytes : List ℕ) → bytes ≡ [] → (classic.records heading bytes).fault ≡ None
unfolding classic.records
records_none heading bytes h = rw h refl

opened_alone : (bytes : List ℕ) (opening : Opening) → opening_of bytes ≡ Some (Ok opening) → length bytes ≤ 24 → (after_opening bytes (Some (Ok opening))).fault ≡ None
opened_alone bytes (Classic heading) h few = records_none heading (drop 24 bytes) (drop_of_length-le bytes few)
opened_alone bytes Blocks h few = by (begins_with_block bytes) refl
  where
    by : (begins : Bool) → begins_with_block bytes ≡ begins → (newer.blocks newer.no_section bytes).fault ≡ None
    by true is = no_blocks_yet bytes is h few
    by false is = absurd (headed_blocks (heading_of bytes) (sym (record_opening bytes is) ∙ h))

-- with no more bytes than of a heading there is no fault, once it is known what stands before the first frame
pub opening_alone : (bytes : List ℕ) (opening : Opening) → opening_of bytes ≡ Some (Ok opening) → length bytes ≤ 24 → (capture bytes).fault ≡ None
unfolding capture
opening_alone bytes opening h few = ap (λ it. (after_opening bytes it).fault) h ∙ opened_alone bytes opening h few

-- ---- how far a capture was read

next_stage : (heading : Heading) (bytes : List ℕ) (read : List ℕ → classic.Reading) (next : classic.Next)
    → ((after : List ℕ) → (read after).fault ≡ None → (read after).state.stage ≡ stages.Records heading)
    → (classic.from_next heading bytes read next).fault ≡ None → (classic.from_next heading bytes read next).state.stage ≡ stages.Records heading
next_stage heading bytes read classic.Partial known h = refl
next_stage heading bytes read (classic.TooLong count) known h = cc
next_stage heading bytes read (classic.Whole frame after) known h = known after h

within_stage : (n : ℕ) (heading : Heading) (bytes : List ℕ) → (classic.records_within n heading bytes).fault ≡ None → (classic.records_within n heading bytes).state.stage ≡ stages.Records heading
within_stage zero heading bytes h = refl
within_stage (suc n) heading bytes h = next_stage heading bytes (classic.records_within n heading) (classic.next_of heading bytes) (within_stage n heading) h

-- records without a fault are read on with their heading
pub records_stage : (heading : Heading) (bytes : List ℕ) → (classic.records heading bytes).fault ≡ None → (classic.records heading bytes).state.stage ≡ stages.Records heading
unfolding classic.records
records_stage heading bytes h = within_stage (length bytes) heading bytes h

next_whole : (section : SectionValue) (bytes : List ℕ) (read : SectionValue → List ℕ → newer.Reading) (next : newer.Next)
    → ((section : SectionValue) (after : List ℕ) → (read section after).fault ≡ None → (read section after).state.is_broken ≡ false)
    → (newer.from_next section bytes read next).fault ≡ None → (newer.from_next section bytes read next).state.is_broken ≡ false
next_whole section bytes read newer.Partial known h = refl
next_whole section bytes read (newer.Bad fault) known h = cc
next_whole section bytes read (newer.Whole step after) known h = known step.section after h

within_whole : (n : ℕ) (section : SectionValue) (bytes : List ℕ) → (newer.blocks_within n section bytes).fault ≡ None → (newer.blocks_within n section bytes).state.is_broken ≡ false
within_whole zero section bytes h = refl
within_whole (suc n) section bytes h = next_whole section bytes (newer.blocks_within n) (newer.next_of section bytes) (within_whole n) h

-- and blocks without a fault are not broken
pub blocks_whole : (section : SectionValue) (bytes : List ℕ) → (newer.blocks section bytes).fault ≡ None → (newer.blocks section bytes).state.is_broken ≡ false
unfolding newer.blocks
blocks_whole section bytes h = within_whole (length bytes) section bytes h

-- ---- more bytes

-- what is read on in a format is what the format makes of it
pub on_records : (stage : ClassicStage) (bytes : List ℕ) → stage ≢ stages.Opening → of_records (classic.read_on stage bytes) ≡ read_on (classic_stage stage) bytes
on_records stages.Opening bytes opened = absurd (opened refl)
on_records (stages.Records heading) bytes opened = refl
on_records stages.Broken bytes opened = refl

pub on_blocks : (is_broken : Bool) (section : SectionValue) (bytes : List ℕ) → of_blocks (newer.read_on is_broken section bytes) ≡ read_on (newer_stage is_broken section) bytes
on_blocks true section bytes = refl
on_blocks false section bytes = refl

pub are_records : (stage : ClassicStage) (heading : Heading) → stage ≡ stages.Records heading → stage ≢ stages.Opening
are_records stage heading is e = cc

continued_records : (heading : Heading) (r : classic.Reading) (more : List ℕ) (fault : Option PcapFault) → (fault ≡ None → r.state.stage ≡ stages.Records heading)
    → of_records (classic.continued_from fault r more) ≡ continued_from fault (of_records r) more
continued_records heading r more None known =
    ap (prepend r.frames) (on_records r.state.stage (r.state.rest ++ more) (are_records r.state.stage heading (known refl)))
continued_records heading r more (Some fault) known = refl

records_cut : (heading : Heading) (xs ys : List ℕ) → of_records (classic.records heading (xs ++ ys)) ≡ continued (of_records (classic.records heading xs)) ys
records_cut heading xs ys =
    ap of_records (records-cut heading xs ys) ∙ continued_records heading (classic.records heading xs) ys (classic.records heading xs).fault (records_stage heading xs)

continued_blocks : (r : newer.Reading) (more : List ℕ) (fault : Option PcapFault) → of_blocks (newer.continued_from fault r more) ≡ continued_from fault (of_blocks r) more
continued_blocks r more None = ap (prepend r.blocks) (on_blocks r.state.is_broken r.state.section (r.state.rest ++ more))
continued_blocks r more (Some fault) = refl

blocks_cut : (section : SectionValue) (xs ys : List ℕ) → of_blocks (newer.blocks section (xs ++ ys)) ≡ continued (of_blocks (newer.blocks section xs)) ys
blocks_cut section xs ys = ap of_blocks (blocks-cut section xs ys) ∙ continued_blocks (newer.blocks section xs) ys (newer.blocks section xs).fault

cut_opening : (xs ys : List ℕ) (read : Option (Result Opening PcapFault)) → opening_of xs ≡ read → capture (xs ++ ys) ≡ continued (after_opening xs read) ys
unfolding capture
cut_opening xs ys None is = refl
cut_opening xs ys (Some (Err fault)) is = ap (after_opening (xs ++ ys)) (opening-append xs ys (Err fault) is)
cut_opening xs ys (Some (Ok (Classic heading))) is =
    ap (after_opening (xs ++ ys)) (opening-append xs ys (Ok (Classic heading)) is)
    ∙ ap (λ bytes. of_records (classic.records heading bytes)) (drop-append-le 24 xs ys (heading_read xs heading (classic_headed xs heading is))) ∙ records_cut heading (drop 24 xs) ys
cut_opening xs ys (Some (Ok Blocks)) is = ap (after_opening (xs ++ ys)) (opening-append xs ys (Ok Blocks) is) ∙ blocks_cut newer.no_section xs ys

-- a capture, cut anywhere
pub capture-cut : (xs ys : List ℕ) → capture (xs ++ ys) ≡ continued (capture xs) ys
unfolding capture
capture-cut xs ys = cut_opening xs ys (opening_of xs) refl

-- the same at any stage
cut_stage : (stage : Stage) (bytes more : List ℕ) → read_on stage (bytes ++ more) ≡ continued (read_on stage bytes) more
cut_stage Unopened bytes more = capture-cut bytes more
cut_stage (Records heading) bytes more = records_cut heading bytes more
cut_stage (Sections section) bytes more = blocks_cut section bytes more
cut_stage Broken bytes more = refl

pub reading_cut : (state : CaptureState) (front back : List ℕ) → reading state (front ++ back) ≡ continued (reading state front) back
reading_cut state front back =
    ap (read_on state.stage) (sym (append_assoc state.rest front back)) ∙ cut_stage state.stage (state.rest ++ front) back

prepend_twice : (fs gs : List FrameValue) (r : Reading) → prepend (fs ++ gs) r ≡ prepend fs (prepend gs r)
prepend_twice fs gs r = ap (λ (all : List FrameValue). record r { frames = all }) (append_assoc fs gs r.frames)

-- what a piece makes of the bytes so far
pub so_far : (bytes piece : List ℕ) (before frames : List FrameValue) (state : CaptureState) → IsSoFar bytes before state frames
    → prepend before (capture (bytes ++ piece)) ≡ prepend frames (reading state piece)
so_far bytes piece before frames state h =
    let fault : (capture bytes).fault ≡ None = sym (ap (λ (r : Reading). r.fault) h) in
    let was : (capture bytes).state ≡ state = sym (ap (λ (r : Reading). r.state) h) in
    let all : before ++ (capture bytes).frames ≡ frames = sym (ap (λ (r : Reading). r.frames) h) in
    ap (prepend before) (capture-cut bytes piece ∙ ap (λ v. continued_from v (capture bytes) piece) fault)
    ∙ sym (prepend_twice before (capture bytes).frames (reading (capture bytes).state piece))
    ∙ ap (λ (all : List FrameValue). prepend all (reading (capture bytes).state piece)) all ∙ ap (λ s. prepend frames (reading s piece)) was

-- at first there is nothing
pub capture_empty : capture [] ≡ waiting Unopened []
unfolding capture opening_of begins_with_block heading_of
capture_empty = refl

-- where the bytes so far have no fault, it is their end that may have one
pub fault_so_far : (bytes : List ℕ) (before frames : List FrameValue) (state : CaptureState) → IsSoFar bytes before state frames → fault_in bytes ≡ ending state
fault_so_far bytes before frames state h =
    let fault : (capture bytes).fault ≡ None = sym (ap (λ (r : Reading). r.fault) h) in
    let was : (capture bytes).state ≡ state = sym (ap (λ (r : Reading). r.state) h) in
    ap (λ f. fault_after f (capture bytes).state) fault ∙ ap ending was
