-- The grammar of captures, step by step and cut by cut.
use Rattle.std.proofs.Common.{◌≡◌, ◌⊎◌, ℕ, ◌+◌, ◌<◌, ◌≤◌, zero, suc, Bool, true, false, cond, nat_lt, List, [], ◌∷◌, ◌++◌, length, take, drop, Result, Ok, Err, length-append, length-drop, refl, sym, ◌∙◌, ap, inl, inr, arith}
use Rattle.std.proofs.lemmas.Bool.Decides.{nat_tests}
use Rattle.std.proofs.lemmas.List.{drop-append-le, take-append-le}
use Rattle.std.proofs.Math.Seq.{drop-length}
use Rattle.byteorder.specs.Numbers.{big_from-append, little_from-append}
use Rattle.pcap_capture.specs.Frames.{FrameValue}
use Rattle.pcap_capture.specs.Grammar.{Next, Partial, TooLong, Whole, Reading, captured, frame_of, from_next, next_of, number, prepend, record_size, records, records_within, stopped, waiting}
use Rattle.pcap_capture.specs.declared.fault.PcapFault.{PcapFault}
use Rattle.pcap_capture.specs.declared.fault.PcapFault.TheVariants.{RecordTooLong}
use Rattle.pcap_capture.specs.declared.heading.Endianness.{Endianness}
use Rattle.pcap_capture.specs.declared.heading.Endianness.TheVariants.{Big, Little}
use Rattle.pcap_capture.specs.declared.heading.Heading.{Heading}
use Rattle.pcap_capture.specs.declared.stage.Stage.TheVariants.{Records}

abbrev size_ok : ℕ → Result ℕ PcapFault
size_ok size = Ok size

abbrev size_err : PcapFault → Result ℕ PcapFault
size_err fault = Err fault

-- what stands at the front has room, and leaves fewer bytes behind it
record IsNext (heading : Heading) (bytes : List ℕ) (frame : FrameValue) (after : List ℕ) : Type 0 where
  room : captured heading bytes ≤ 262144
  size : 16 + captured heading bytes ≤ length bytes
  frame_is : frame ≡ frame_of heading bytes
  after_is : after ≡ drop (16 + captured heading bytes) bytes

not_less : (a b : ℕ) → nat_lt a b ≡ false → b ≤ a
not_less a b h = grind (arith, nat_tests)

not_more : (a : ℕ) → nat_lt 262144 a ≡ false → a ≤ 262144
not_more a h = grind (arith, nat_tests)

pub is_less : (a b : ℕ) → a < b → nat_lt a b ≡ true
is_less a b h = grind (arith, nat_tests)

pub is_not_less : (a b : ℕ) → b ≤ a → nat_lt a b ≡ false
is_not_less a b h = grind (arith, nat_tests)

-- what the tests of a record say where it is whole
record IsWhole (short long cut : Bool) (made frame : FrameValue) (behind after : List ℕ) : Type 0 where
  not_short : short ≡ false
  not_long : long ≡ false
  not_cut : cut ≡ false
  frame_is : frame ≡ made
  after_is : after ≡ behind

tests_passed : (short long cut : Bool) (count : ℕ) (made frame : FrameValue) (behind after : List ℕ)
    → cond short Partial (cond long (TooLong count) (cond cut Partial (Whole made behind))) ≡ Whole frame after
    → IsWhole short long cut made frame behind after
tests_passed true long cut count made frame behind after h = cc
tests_passed false true cut count made frame behind after h = cc
tests_passed false false true count made frame behind after h = cc
tests_passed false false false count made frame behind after h = record { not_short = refl; not_long = refl; not_cut = refl; frame_is = cc; after_is = cc }

whole_is : (heading : Heading) (bytes : List ℕ) (frame : FrameValue) (after : List ℕ) → next_of heading bytes ≡ Whole frame after → IsNext heading bytes frame after
unfolding next_of
whole_is heading bytes frame after h =
    let tests = tests_passed (nat_lt (length bytes) 16) (nat_lt 262144 (captured heading bytes)) (nat_lt (length bytes) (16 + captured heading bytes))
    (captured heading bytes) (frame_of heading bytes) frame (drop (16 + captured heading bytes) bytes) after h in
    record {
      room = not_more (captured heading bytes) tests.not_long;
      size = not_less (length bytes) (16 + captured heading bytes) tests.not_cut;
      frame_is = tests.frame_is;
      after_is = tests.after_is;
    }

-- too few bytes for a record's own
pub next-short : (heading : Heading) (bytes : List ℕ) → length bytes < 16 → next_of heading bytes ≡ Partial
unfolding next_of
next-short heading bytes h = rw (is_less (length bytes) 16 h) refl

pub after_shorter : (heading : Heading) (bytes : List ℕ) (frame : FrameValue) (after : List ℕ) → next_of heading bytes ≡ Whole frame after → length after + 16 ≤ length bytes
after_shorter heading bytes frame after h =
    let next = whole_is heading bytes frame after h in
    omega (arith, ap length next.after_is, length-drop (16 + captured heading bytes) bytes, next.size)

-- the number of records that are allowed does not matter, as long as it is enough
step_same : (heading : Heading) (bytes : List ℕ) (one other : List ℕ → Reading) (next : Next)
    → ((frame : FrameValue) (after : List ℕ) → next ≡ Whole frame after → one after ≡ other after)
    → from_next heading bytes one next ≡ from_next heading bytes other next
step_same heading bytes one other Partial same = refl
step_same heading bytes one other (TooLong count) same = refl
step_same heading bytes one other (Whole frame after) same = ap (prepend (frame ∷ [])) (same frame after refl)

within_same : (n m : ℕ) (heading : Heading) (bytes : List ℕ) → length bytes ≤ n → length bytes ≤ m → records_within n heading bytes ≡ records_within m heading bytes
within_same zero zero heading bytes h k = refl
within_same zero (suc m) heading bytes h k = sym (ap (from_next heading bytes (records_within m heading)) (next-short heading bytes (omega arith)))
within_same (suc n) zero heading bytes h k = ap (from_next heading bytes (records_within n heading)) (next-short heading bytes (omega arith))
within_same (suc n) (suc m) heading bytes h k =
    step_same heading bytes (records_within n heading) (records_within m heading) (next_of heading bytes)
    (λ frame after is.
    let shorter = after_shorter heading bytes frame after is in
    within_same n m heading after (omega arith) (omega arith))

-- reading goes on behind the record at the front
pub records-next : (heading : Heading) (bytes : List ℕ) → records heading bytes ≡ from_next heading bytes (records heading) (next_of heading bytes)
unfolding records
records-next heading bytes =
    within_same (length bytes) (suc (length bytes)) heading bytes (omega arith) (omega arith)
    ∙ step_same heading bytes (records_within (length bytes) heading) (λ after. records_within (length after) heading after) (next_of heading bytes)
    (λ frame after is.
    let shorter = after_shorter heading bytes frame after is in
    within_same (length bytes) (length after) heading after (omega arith) (omega arith))

-- a number stays when bytes come behind it
pub number-append : (order : Endianness) (n : ℕ) (xs ys : List ℕ) → n ≤ length xs → number order n (xs ++ ys) ≡ number order n xs
number-append Big n xs ys h = big_from-append n xs ys h
number-append Little n xs ys h = little_from-append n xs ys h

pub number-append_at : (order : Endianness) (n at : ℕ) (xs ys : List ℕ) → at + n ≤ length xs → number order n (drop at (xs ++ ys)) ≡ number order n (drop at xs)
number-append_at order n at xs ys h =
    ap (number order n) (drop-append-le at xs ys (omega arith)) ∙ number-append order n (drop at xs) ys (omega (arith, length-drop at xs))

captured-append : (heading : Heading) (xs ys : List ℕ) → 16 ≤ length xs → captured heading (xs ++ ys) ≡ captured heading xs
captured-append heading xs ys h = number-append_at heading.order 4 8 xs ys (omega arith)

-- a frame stays when bytes come behind it
frame-append : (heading : Heading) (xs ys : List ℕ) → 16 + captured heading xs ≤ length xs → frame_of heading (xs ++ ys) ≡ frame_of heading xs
frame-append heading xs ys h =
    let count = captured-append heading xs ys (omega arith) in
    let front = take-append-le 16 xs ys (omega arith) in
    let seconds = number-append heading.order 4 xs ys (omega arith) in
    let fraction = number-append_at heading.order 4 4 xs ys (omega arith) in
    let body : take (captured heading xs) (drop 16 (xs ++ ys)) ≡ take (captured heading xs) (drop 16 xs) =
    ap (take (captured heading xs)) (drop-append-le 16 xs ys (omega arith)) ∙ take-append-le (captured heading xs) (drop 16 xs) ys (omega (arith, length-drop 16 xs)) in
    rw (front, seconds, fraction, count, body) refl

-- the tests of a record the other way round
next-whole : (heading : Heading) (bytes : List ℕ) → captured heading bytes ≤ 262144 → 16 + captured heading bytes ≤ length bytes
    → next_of heading bytes ≡ Whole (frame_of heading bytes) (drop (16 + captured heading bytes) bytes)
unfolding next_of
next-whole heading bytes h k =
    rw (is_not_less (length bytes) 16 (omega arith), is_not_less 262144 (captured heading bytes) h, is_not_less (length bytes) (16 + captured heading bytes) k) refl

next-too_long : (heading : Heading) (bytes : List ℕ) → 16 ≤ length bytes → 262144 < captured heading bytes → next_of heading bytes ≡ TooLong (captured heading bytes)
unfolding next_of
next-too_long heading bytes h k = rw (is_not_less (length bytes) 16 h, is_less 262144 (captured heading bytes) k) refl

next-cut : (heading : Heading) (bytes : List ℕ) → captured heading bytes ≤ 262144 → 16 ≤ length bytes → length bytes < 16 + captured heading bytes → next_of heading bytes ≡ Partial
unfolding next_of
next-cut heading bytes h k l =
    rw (is_not_less (length bytes) 16 k, is_not_less 262144 (captured heading bytes) h, is_less (length bytes) (16 + captured heading bytes) l) refl

-- a whole record stays whole when bytes come behind it
pub whole-append : (heading : Heading) (xs ys : List ℕ) (frame : FrameValue) (after : List ℕ)
    → next_of heading xs ≡ Whole frame after → next_of heading (xs ++ ys) ≡ Whole frame (after ++ ys)
whole-append heading xs ys frame after h =
    let next = whole_is heading xs frame after h in
    let count = captured-append heading xs ys (omega (arith, next.size)) in
    let body = next-whole heading (xs ++ ys) (omega (arith, count, next.room)) (omega (arith, count, length-append xs ys, next.size)) in
    let same : frame_of heading (xs ++ ys) ≡ frame = frame-append heading xs ys next.size ∙ sym next.frame_is in
    let behind : drop (16 + captured heading (xs ++ ys)) (xs ++ ys) ≡ after ++ ys =
    ap (λ n. drop (16 + n) (xs ++ ys)) count ∙ drop-append-le (16 + captured heading xs) xs ys next.size ∙ ap (λ l. l ++ ys) (sym next.after_is) in
    body ∙ ap (λ f. Whole f (drop (16 + captured heading (xs ++ ys)) (xs ++ ys))) same ∙ ap (Whole frame) behind

record IsLong (short long : Bool) (count found : ℕ) : Type 0 where
  not_short : short ≡ false
  is_long : long ≡ true
  count_is : found ≡ count

tests_long : (short long cut : Bool) (count found : ℕ) (made : FrameValue) (behind : List ℕ)
    → cond short Partial (cond long (TooLong count) (cond cut Partial (Whole made behind))) ≡ TooLong found → IsLong short long count found
tests_long true long cut count found made behind h = cc
tests_long false true cut count found made behind h = record { not_short = refl; is_long = refl; count_is = cc }
tests_long false false true count found made behind h = cc
tests_long false false false count found made behind h = cc

more : (a : ℕ) → nat_lt 262144 a ≡ true → 262144 < a
more a h = grind (arith, nat_tests)

-- and so does one that is too long
pub too_long-append : (heading : Heading) (xs ys : List ℕ) (count : ℕ) → next_of heading xs ≡ TooLong count → next_of heading (xs ++ ys) ≡ TooLong count
unfolding next_of
too_long-append heading xs ys count h =
    let tests = tests_long (nat_lt (length xs) 16) (nat_lt 262144 (captured heading xs)) (nat_lt (length xs) (16 + captured heading xs))
    (captured heading xs) count (frame_of heading xs) (drop (16 + captured heading xs) xs) h in
    let least : 16 ≤ length xs = not_less (length xs) 16 tests.not_short in
    let same = captured-append heading xs ys least in
    let above : 262144 < captured heading xs = more (captured heading xs) tests.is_long in
    next-too_long heading (xs ++ ys) (omega (arith, length-append xs ys, least)) (omega (arith, same, above)) ∙ ap TooLong (same ∙ sym tests.count_is)

-- what a record's size says
size_tests : (short long : Bool) (count size : ℕ) → cond short (size_ok 16) (cond long (size_err (RecordTooLong count)) (size_ok (16 + count))) ≡ Ok size
    → ((short ≡ true) × (size ≡ 16)) ⊎ ((short ≡ false) × (long ≡ false) × (size ≡ 16 + count))
size_tests true long count size h = inl (refl, cc)
size_tests false true count size h = cc
size_tests false false count size h = inr (refl, refl, cc)

size_cases : (heading : Heading) (bytes : List ℕ) (size : ℕ) → record_size heading bytes ≡ Ok size
    → ((nat_lt (length bytes) 16 ≡ true) × (size ≡ 16)) ⊎ ((nat_lt (length bytes) 16 ≡ false) × (nat_lt 262144 (captured heading bytes) ≡ false) × (size ≡ 16 + captured heading bytes))
unfolding record_size
size_cases heading bytes size h = size_tests (nat_lt (length bytes) 16) (nat_lt 262144 (captured heading bytes)) (captured heading bytes) size h

below : (a b : ℕ) → nat_lt a b ≡ true → a < b
below a b h = grind (arith, nat_tests)

-- less than its size is no record
pub size_partial : (heading : Heading) (bytes : List ℕ) (size : ℕ) → record_size heading bytes ≡ Ok size → length bytes < size → next_of heading bytes ≡ Partial
size_partial heading bytes size h k = elim (size_cases heading bytes size h) [
  | inl short ↦ next-short heading bytes (below (length bytes) 16 short.0)
  | inr known ↦ next-cut heading bytes (not_more (captured heading bytes) known.1) (not_less (length bytes) 16 known.0) (omega (arith, known.2))
]

-- its size is a record, whatever comes behind it
pub size_whole : (heading : Heading) (xs ys : List ℕ) → record_size heading xs ≡ Ok (length xs) → next_of heading (xs ++ ys) ≡ Whole (frame_of heading xs) ys
size_whole heading xs ys h = elim (size_cases heading xs (length xs) h) [
  | inl short ↦ absurd (omega (arith, below (length xs) 16 short.0, short.1))
  | inr known ↦
      let whole = next-whole heading xs (not_more (captured heading xs) known.1) (omega (arith, known.2)) in
      let none : drop (16 + captured heading xs) xs ≡ [] = ap (λ n. drop n xs) (sym known.2) ∙ drop-length xs in
      whole-append heading xs ys (frame_of heading xs) [] (whole ∙ ap (Whole (frame_of heading xs)) none)
]

-- a size is that of the record alone
pub size_take : (heading : Heading) (xs ys : List ℕ) → record_size heading (xs ++ ys) ≡ Ok (length xs) → record_size heading xs ≡ Ok (length xs)
unfolding record_size
size_take heading xs ys h = elim (size_cases heading (xs ++ ys) (length xs) h) [
  | inl short ↦ absurd (omega (arith, below (length (xs ++ ys)) 16 short.0, short.1, length-append xs ys))
  | inr known ↦
      let same = captured-append heading xs ys (omega (arith, known.2)) in
      let room = not_more (captured heading (xs ++ ys)) known.1 in
      rw (is_not_less (length xs) 16 (omega (arith, known.2)), is_not_less 262144 (captured heading xs) (omega (arith, same, room))) (ap size_ok (ap (λ n. 16 + n) (sym same) ∙ sym known.2))
]

fault_tests : (short long : Bool) (count : ℕ) (fault : PcapFault) → cond short (size_ok 16) (cond long (size_err (RecordTooLong count)) (size_ok (16 + count))) ≡ Err fault
    → (short ≡ false) × (long ≡ true) × (fault ≡ RecordTooLong count)
fault_tests true long count fault h = cc
fault_tests false true count fault h = (refl, refl, cc)
fault_tests false false count fault h = cc

-- a record that is too long stops the reading
pub size_stops : (heading : Heading) (bytes : List ℕ) (fault : PcapFault) → record_size heading bytes ≡ Err fault → records heading bytes ≡ stopped fault
unfolding record_size
size_stops heading bytes fault h =
    let tests = fault_tests (nat_lt (length bytes) 16) (nat_lt 262144 (captured heading bytes)) (captured heading bytes) fault h in
    let long = next-too_long heading bytes (not_less (length bytes) 16 tests.0) (more (captured heading bytes) tests.1) in
    records-next heading bytes ∙ ap (from_next heading bytes (records heading)) long ∙ ap stopped (sym tests.2)

-- a whole record in front is a frame in front
pub records_whole : (heading : Heading) (xs ys : List ℕ) → record_size heading xs ≡ Ok (length xs) → records heading (xs ++ ys) ≡ prepend (frame_of heading xs ∷ []) (records heading ys)
records_whole heading xs ys h =
    records-next heading (xs ++ ys) ∙ ap (from_next heading (xs ++ ys) (records heading)) (size_whole heading xs ys h)

-- less than a record waits
pub records_partial : (heading : Heading) (bytes : List ℕ) → next_of heading bytes ≡ Partial → records heading bytes ≡ waiting (Records heading) bytes
records_partial heading bytes h = records-next heading bytes ∙ ap (from_next heading bytes (records heading)) h

-- a record has its own sixteen bytes
pub size_least : (heading : Heading) (bytes : List ℕ) (size : ℕ) → record_size heading bytes ≡ Ok size → 16 ≤ size
size_least heading bytes size h = elim (size_cases heading bytes size h) [
  | inl short ↦ omega (arith, short.1)
  | inr known ↦ omega (arith, known.2)
]

-- and no more captured bytes than are read
pub size_most : (heading : Heading) (bytes : List ℕ) (size : ℕ) → record_size heading bytes ≡ Ok size → size ≤ 262160
size_most heading bytes size h = elim (size_cases heading bytes size h) [
  | inl short ↦ omega (arith, short.1)
  | inr known ↦ omega (arith, known.2, not_more (captured heading bytes) known.1)
]

-- a record of just its size has the captured bytes that it tells
pub size_captured : (heading : Heading) (bytes : List ℕ) → record_size heading bytes ≡ Ok (length bytes) → 16 + captured heading bytes ≡ length bytes
size_captured heading bytes h = elim (size_cases heading bytes (length bytes) h) [
  | inl short ↦ absurd (omega (arith, below (length bytes) 16 short.0, short.1))
  | inr known ↦ sym known.2
]

-- a size that is there whole is that of a record whose own sixteen bytes are there
pub size_there : (heading : Heading) (bytes : List ℕ) (size : ℕ) → record_size heading bytes ≡ Ok size → size ≤ length bytes → 16 ≤ length bytes
size_there heading bytes size h there = omega (arith, size_least heading bytes size h)
