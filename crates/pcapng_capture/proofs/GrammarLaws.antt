-- What stands at the front of bytes, and what more bytes change of it.
use Rattle.std.proofs.Common.{◌≡◌, ℕ, ◌+◌, ◌<◌, ◌≤◌, zero, suc, Bool, true, false, cond, ◌||◌, nat_lt, List, [], ◌∷◌, ◌++◌, length, take, drop, Option, None, Some, Result, Ok, Err, length-append, length-drop, refl, subst, sym, ◌∙◌, ap, ap₂, inl, inr, arith}
use Rattle.std.proofs.lemmas.Bool.{cases_lt}
use Rattle.std.proofs.lemmas.Bool.Decides.{nat_tests}
use Rattle.std.proofs.lemmas.List.{drop-append-le, length-take-le, take-append-drop, take-append-le}
use Rattle.byteorder.specs.Numbers.{big_from-append, little_from-append}
use Rattle.pcap_capture.specs.Grammar.{number}
use Rattle.pcap_capture.specs.declared.heading.Endianness.{Endianness}
use Rattle.pcap_capture.proofs.GrammarLaws.{number-append, number-append_at}
use Rattle.pcapng_capture.specs.Grammar.{Next, Partial, Bad, Whole, Reading, blocks, blocks_within, from_next, least_size, magic_order, next_of, next_sized, next_whole, order_of, prepend, size_by, size_in, size_of, step_of}
use Rattle.pcapng_capture.specs.Packets.{SectionValue, Step}
use Rattle.pcapng_capture.specs.Pieces.{IsFront}
use Rattle.pcapng_capture.specs.declared.place.Front.{Front}
use Rattle.pcap_capture.specs.declared.fault.PcapFault.{PcapFault}

abbrev size_ok : ℕ → Result ℕ PcapFault
size_ok size = Ok size

abbrev size_err : PcapFault → Result ℕ PcapFault
size_err fault = Err fault

pub not_less : (a b : ℕ) → nat_lt a b ≡ false → b ≤ a
not_less a b h = grind (arith, nat_tests)

pub is_less : (a b : ℕ) → a < b → nat_lt a b ≡ true
is_less a b h = grind (arith, nat_tests)

pub is_not_less : (a b : ℕ) → b ≤ a → nat_lt a b ≡ false
is_not_less a b h = grind (arith, nat_tests)

or_false : (a b : Bool) → a || b ≡ false → a ≡ false
or_false true b h = cc
or_false false b h = refl

-- a size that is told is one that can be
pub record IsSized (bound told size : ℕ) : Type 0 where
  pub is : told ≡ size
  pub least : bound ≤ size
  pub most : size ≤ 16777216

by_tests : (long bad : Bool) (told size : ℕ) (one other : PcapFault) → cond long (size_err one) (cond bad (size_err other) (size_ok told)) ≡ Ok size
    → (long ≡ false) × (bad ≡ false) × (told ≡ size)
by_tests true bad told size one other h = cc
by_tests false true told size one other h = cc
by_tests false false told size one other h = (refl, refl, cc)

pub size_by_is : (least told size : ℕ) → size_by least told ≡ Ok size → IsSized least told size
size_by_is least told size h =
    let tests = by_tests (nat_lt 16777216 told) _ told size _ _ h in
    let most : told ≤ 16777216 = not_less 16777216 told tests.0 in
    let more : least ≤ told = not_less told least (or_false (nat_lt told least) _ tests.1) in
    record { is = tests.2; least = omega (arith, tests.2, more); most = omega (arith, tests.2, most) }

least_by : (a b c d : Bool) → 12 ≤ cond a 28 (cond b 20 (cond c 32 (cond d 16 12)))
least_by true b c d = omega arith
least_by false true c d = omega arith
least_by false false true d = omega arith
least_by false false false true = omega arith
least_by false false false false = omega arith

pub least_twelve : (kind : ℕ) → 12 ≤ least_size kind
unfolding least_size
least_twelve kind = least_by _ _ _ _

-- a size in the bytes of a block is that of a block whose order is known
pub size_in_is : (bytes : List ℕ) (order : Option Endianness) (size : ℕ) → size_in bytes order ≡ Ok size
    → (known : Endianness) × (order ≡ Some known) × IsSized (least_size (number known 4 bytes)) (number known 4 (drop 4 bytes)) size
size_in_is bytes None size h = cc
size_in_is bytes (Some order) size h = (order, refl, size_by_is (least_size (number order 4 bytes)) (number order 4 (drop 4 bytes)) size h)

pub size_short : (section : SectionValue) (bytes : List ℕ) → length bytes < 12 → size_of section bytes ≡ Ok 12
unfolding size_of
size_short section bytes h = rw (is_less (length bytes) 12 h) refl

pub size_long : (section : SectionValue) (bytes : List ℕ) → 12 ≤ length bytes → size_of section bytes ≡ size_in bytes (order_of section bytes)
unfolding size_of
size_long section bytes h = rw (is_not_less (length bytes) 12 h) refl

pub size_least : (section : SectionValue) (bytes : List ℕ) (size : ℕ) → size_of section bytes ≡ Ok size → 12 ≤ size
size_least section bytes size h = elim (cases_lt (length bytes) 12) [
  | inl short ↦
      let is = size_short section bytes short in
      let same : 12 ≡ size = cc in
      omega (arith, same)
  | inr long ↦
      let known = size_in_is bytes (order_of section bytes) size (sym (size_long section bytes long) ∙ h) in
      omega (arith, known.2.least, least_twelve (number known.0 4 bytes))
]

-- a block of just its size has what its type needs
pub size_known : (section : SectionValue) (own : List ℕ) (order : Endianness) → 12 ≤ length own → size_of section own ≡ Ok (length own) → order_of section own ≡ Some order
    → (least_size (number order 4 own) ≤ length own) × (length own ≤ 16777216)
size_known section own order h sized is =
    let known = size_in_is own (Some order) (length own) (ap (size_in own) (sym is) ∙ sym (size_long section own h) ∙ sized) in
    let same : known.0 ≡ order = cc in
    (subst (λ o. least_size (number o 4 own) ≤ length own) same known.2.least, known.2.most)

-- the order stays when bytes come behind the first twelve
magic-append : (xs ys : List ℕ) → 4 ≤ length xs → magic_order (xs ++ ys) ≡ magic_order xs
unfolding magic_order
magic-append xs ys h =
    let big = big_from-append 4 xs ys h in
    let little = little_from-append 4 xs ys h in
    rw (big, little) refl

order-append : (section : SectionValue) (xs ys : List ℕ) → 12 ≤ length xs → order_of section (xs ++ ys) ≡ order_of section xs
unfolding order_of
order-append section xs ys h =
    let kind = big_from-append 4 xs ys (omega arith) in
    let magic : magic_order (drop 8 (xs ++ ys)) ≡ magic_order (drop 8 xs) =
    ap magic_order (drop-append-le 8 xs ys (omega arith)) ∙ magic-append (drop 8 xs) ys (omega (arith, length-drop 8 xs)) in
    rw (kind, magic) refl

size_in-append : (order : Option Endianness) (xs ys : List ℕ) → 12 ≤ length xs → size_in (xs ++ ys) order ≡ size_in xs order
size_in-append None xs ys h = refl
size_in-append (Some order) xs ys h =
    ap₂ (λ kind told. size_by (least_size kind) told) (number-append order 4 xs ys (omega arith)) (number-append_at order 4 4 xs ys (omega arith))

-- and so does the size
pub size-append : (section : SectionValue) (xs ys : List ℕ) → 12 ≤ length xs → size_of section (xs ++ ys) ≡ size_of section xs
size-append section xs ys h =
    size_long section (xs ++ ys) (omega (arith, length-append xs ys)) ∙ ap (size_in (xs ++ ys)) (order-append section xs ys h)
    ∙ size_in-append (order_of section xs) xs ys h ∙ sym (size_long section xs h)

-- a size that is there whole is that of the block alone
pub size_own : (section : SectionValue) (bytes : List ℕ) (size : ℕ) → size_of section bytes ≡ Ok size → size ≤ length bytes
    → size_of section (take size bytes) ≡ Ok (length (take size bytes))
size_own section bytes size h there =
    let least = size_least section bytes size h in
    let own : length (take size bytes) ≡ size = length-take-le size bytes there in
    sym (size-append section (take size bytes) (drop size bytes) (omega arith)) ∙ ap (size_of section) (take-append-drop size bytes) ∙ h ∙ ap size_ok (sym own)

-- and what is known by the front of bytes is known of the block alone
pub front_own : (section : SectionValue) (bytes : List ℕ) (size : ℕ) (front : Front) → 12 ≤ size → size ≤ length bytes → IsFront front section bytes → IsFront front section (take size bytes)
front_own section bytes size front least there known =
    let own : length (take size bytes) ≡ size = length-take-le size bytes there in
    let whole = take-append-drop size bytes in (
      sym (order-append section (take size bytes) (drop size bytes) (omega arith)) ∙ ap (order_of section) whole ∙ known.0,
      known.1 ∙ ap (number front.order 4) (sym whole) ∙ number-append front.order 4 (take size bytes) (drop size bytes) (omega arith),
    )

-- what stands at the front, by the size
pub next_by : (section : SectionValue) (bytes : List ℕ) (size : Result ℕ PcapFault) → size_of section bytes ≡ size → next_of section bytes ≡ next_sized section bytes size
unfolding next_of
next_by section bytes size h = ap (next_sized section bytes) h

pub next_partial : (section : SectionValue) (bytes : List ℕ) (size : ℕ) → size_of section bytes ≡ Ok size → length bytes < size → next_of section bytes ≡ Partial
next_partial section bytes size h short = next_by section bytes (Ok size) h ∙ rw (is_less (length bytes) size short) refl

pub next_there : (section : SectionValue) (bytes : List ℕ) (size : ℕ) → size_of section bytes ≡ Ok size → size ≤ length bytes
    → next_of section bytes ≡ next_whole (drop size bytes) (step_of section (take size bytes))
next_there section bytes size h there = next_by section bytes (Ok size) h ∙ rw (is_not_less (length bytes) size there) refl

pub next_short : (section : SectionValue) (bytes : List ℕ) → length bytes < 12 → next_of section bytes ≡ Partial
next_short section bytes h = next_partial section bytes 12 (size_short section bytes h) h

whole_after : (after found : List ℕ) (made : Result Step PcapFault) (step : Step) → next_whole after made ≡ Whole step found → found ≡ after
whole_after after found (Err fault) step h = cc
whole_after after found (Ok made) step h = cc

after_by : (section : SectionValue) (bytes : List ℕ) (size : Result ℕ PcapFault) (step : Step) (after : List ℕ) → size_of section bytes ≡ size → next_of section bytes ≡ Whole step after
    → length after + 12 ≤ length bytes
after_by section bytes (Err fault) step after is h =
    let bad : next_of section bytes ≡ Bad fault = next_by section bytes (Err fault) is in
    cc
after_by section bytes (Ok size) step after is h = elim (cases_lt (length bytes) size) [
  | inl short ↦
      let none = next_partial section bytes size is short in
      cc
  | inr there ↦
      let same : after ≡ drop size bytes = whole_after (drop size bytes) after (step_of section (take size bytes)) step (sym (next_there section bytes size is there) ∙ h) in
      omega (arith, size_least section bytes size is, ap length same, length-drop size bytes)
]

pub after_shorter : (section : SectionValue) (bytes : List ℕ) (step : Step) (after : List ℕ) → next_of section bytes ≡ Whole step after → length after + 12 ≤ length bytes
after_shorter section bytes step after h = after_by section bytes (size_of section bytes) step after refl h

-- more bytes behind what is known
abbrev behind : List ℕ → Next → Next
behind more Partial = Partial
behind more (Bad fault) = Bad fault
behind more (Whole step after) = Whole step (after ++ more)

whole_behind : (after more : List ℕ) (made : Result Step PcapFault) → next_whole (after ++ more) made ≡ behind more (next_whole after made)
whole_behind after more (Err fault) = refl
whole_behind after more (Ok step) = refl

behind_by : (section : SectionValue) (xs ys : List ℕ) (size : Result ℕ PcapFault) → size_of section xs ≡ size → 12 ≤ length xs → (next_of section xs ≡ Partial → ⊥)
    → next_of section (xs ++ ys) ≡ behind ys (next_of section xs)
behind_by section xs ys (Err fault) is long known =
    next_by section (xs ++ ys) (Err fault) (size-append section xs ys long ∙ is) ∙ sym (ap (behind ys) (next_by section xs (Err fault) is))
behind_by section xs ys (Ok size) is long known = elim (cases_lt (length xs) size) [
  | inl short ↦ absurd (known (next_partial section xs size is short))
  | inr there ↦
      next_there section (xs ++ ys) size (size-append section xs ys long ∙ is) (omega (arith, length-append xs ys))
      ∙ ap₂ (λ after own. next_whole after (step_of section own)) (drop-append-le size xs ys there) (take-append-le size xs ys there)
      ∙ whole_behind (drop size xs) ys (step_of section (take size xs))
      ∙ sym (ap (behind ys) (next_there section xs size is there))
]

-- what is known of the front stays when bytes come behind it
next-append : (section : SectionValue) (xs ys : List ℕ) → (next_of section xs ≡ Partial → ⊥) → next_of section (xs ++ ys) ≡ behind ys (next_of section xs)
next-append section xs ys known = elim (cases_lt (length xs) 12) [
  | inl short ↦ absurd (known (next_short section xs short))
  | inr long ↦ behind_by section xs ys (size_of section xs) refl long known
]

pub whole-append : (section : SectionValue) (xs ys : List ℕ) (step : Step) (after : List ℕ) → next_of section xs ≡ Whole step after → next_of section (xs ++ ys) ≡ Whole step (after ++ ys)
whole-append section xs ys step after h = next-append section xs ys (λ e. cc) ∙ ap (behind ys) h

pub bad-append : (section : SectionValue) (xs ys : List ℕ) (fault : PcapFault) → next_of section xs ≡ Bad fault → next_of section (xs ++ ys) ≡ Bad fault
bad-append section xs ys fault h = next-append section xs ys (λ e. cc) ∙ ap (behind ys) h

-- the number of blocks that are allowed does not matter, as long as it is enough
step_same : (section : SectionValue) (bytes : List ℕ) (one other : SectionValue → List ℕ → Reading) (next : Next)
    → ((step : Step) (after : List ℕ) → next ≡ Whole step after → one step.section after ≡ other step.section after)
    → from_next section bytes one next ≡ from_next section bytes other next
step_same section bytes one other Partial same = refl
step_same section bytes one other (Bad fault) same = refl
step_same section bytes one other (Whole step after) same = ap (prepend (step.block ∷ [])) (same step after refl)

within_same : (n m : ℕ) (section : SectionValue) (bytes : List ℕ) → length bytes ≤ n → length bytes ≤ m → blocks_within n section bytes ≡ blocks_within m section bytes
within_same zero zero section bytes h k = refl
within_same zero (suc m) section bytes h k = sym (ap (from_next section bytes (blocks_within m)) (next_short section bytes (omega arith)))
within_same (suc n) zero section bytes h k = ap (from_next section bytes (blocks_within n)) (next_short section bytes (omega arith))
within_same (suc n) (suc m) section bytes h k =
    step_same section bytes (blocks_within n) (blocks_within m) (next_of section bytes)
    (λ step after is.
    let shorter = after_shorter section bytes step after is in
    within_same n m step.section after (omega arith) (omega arith))

-- reading goes on behind the block at the front
pub blocks-next : (section : SectionValue) (bytes : List ℕ) → blocks section bytes ≡ from_next section bytes blocks (next_of section bytes)
unfolding blocks
blocks-next section bytes =
    within_same (length bytes) (suc (length bytes)) section bytes (omega arith) (omega arith)
    ∙ step_same section bytes (blocks_within (length bytes)) (λ (s : SectionValue) after. blocks_within (length after) s after) (next_of section bytes)
    (λ step after is.
    let shorter = after_shorter section bytes step after is in
    within_same (length bytes) (length after) step.section after (omega arith) (omega arith))

pub blocks_by : (section : SectionValue) (bytes : List ℕ) (next : Next) → next_of section bytes ≡ next → blocks section bytes ≡ from_next section bytes blocks next
blocks_by section bytes next h = blocks-next section bytes ∙ ap (from_next section bytes blocks) h
