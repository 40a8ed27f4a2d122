-- The ones' complement sum in closed form.
use Rattle.std.proofs.Common.{◌≡◌, ℕ, ◌+◌, ◌-◌, ◌*◌, ◌/◌, ◌%◌, ◌<◌, ◌≤◌, take, drop, zero, suc, List, [], ◌∷◌, length, slice_index, refl, sym, inl, inr, add-zero, add-suc, ◌∙◌, ap, arith}
use Rattle.std.proofs.lemmas.Bool.Decides.{nat_tests}
use Rattle.std.proofs.lemmas.Bool.{cases_lt}
use Rattle.std.proofs.lemmas.Nat.{mod-mul-add}
use Rattle.byteorder.specs.Endian.{big_number}
use Rattle.af_marker.specs.Checksums.{folded, ones_add, ones_sum, words}

-- a plain sum
abbrev pub total : List ℕ → ℕ
total [] = 0
total (word ∷ rest) = word + total rest

fold_small : (a : ℕ) → a < 65536 → folded a ≡ a
fold_small zero h = refl
fold_small (suc n) h = omega arith

remainder_of : (n q r : ℕ) → n ≡ q * 65535 + r → r < 65535 → n % 65535 ≡ r
remainder_of n q r e h = rw e (mod-mul-add q 65535 r h)

fold_carry : (a m : ℕ) → a < 65536 → ones_add a (1 + m % 65535) ≡ 1 + (a + m) % 65535
fold_carry a m h = elim (cases_lt (a + m % 65535) 65535) [
  | inl few ↦ let e : (a + m) % 65535 ≡ a + m % 65535 = remainder_of (a + m) (m / 65535) (a + m % 65535) (omega arith) few in rw e (grind (arith, nat_tests))
  | inr many ↦ let e : (a + m) % 65535 ≡ a + m % 65535 - 65535 = remainder_of (a + m) (m / 65535 + 1) (a + m % 65535 - 65535) (omega arith) (omega arith) in rw e (grind (arith, nat_tests))
]

ones_add_folded : (a n : ℕ) → a < 65536 → ones_add a (folded n) ≡ folded (a + n)
ones_add_folded a zero h = rw add-zero (grind (arith, nat_tests, fold_small a h))
ones_add_folded a (suc m) h = fold_carry a m h ∙ ap folded (sym (add-suc a m))

-- words are below 2^16
abbrev pub AreWords : List ℕ → Type 0
AreWords [] = Unit {0}
AreWords (word ∷ rest) = (word < 65536) × AreWords rest

-- the ones' complement sum of words is their plain sum with its carries folded in
pub ones_sum_folded : (ws : List ℕ) → AreWords ws → ones_sum ws ≡ folded (total ws)
ones_sum_folded [] h = refl
ones_sum_folded (w ∷ ws) h = rw (ones_sum_folded ws h.1) (ones_add_folded w (total ws) h.0)

-- every item is a byte
abbrev pub AreBytes : List ℕ → Type 0
AreBytes bytes = (k : ℕ) → slice_index bytes k < 256

pub AreBytes-rest : (a : ℕ) (xs : List ℕ) → AreBytes (a ∷ xs) → AreBytes xs
AreBytes-rest a xs h k = h (suc k)

-- the words of bytes are words
pub AreWords-words : (bytes : List ℕ) → AreBytes bytes → AreWords (words bytes)
AreWords-words [] h = tt
AreWords-words (a ∷ []) h = let first = h 0 in (omega arith, tt)
AreWords-words (a ∷ (b ∷ rest)) h =
    let first = h 0 in let second = h 1 in
    (omega arith, AreWords-words rest (AreBytes-rest b rest (AreBytes-rest a (b ∷ rest) h)))

-- a plain sum of numbers of four bytes, two words each, and of the words behind the last of them
abbrev pub total_by_two : List ℕ → ℕ
total_by_two [] = 0
total_by_two (a ∷ []) = 256 * a
total_by_two (a ∷ (b ∷ [])) = 256 * a + b
total_by_two (a ∷ (b ∷ (c ∷ []))) = 256 * a + b + 256 * c
total_by_two (a ∷ (b ∷ (c ∷ (d ∷ rest)))) = 65536 * (256 * a + b) + (256 * c + d) + total_by_two rest

-- the first number of four bytes is added
pub by_two_next : (bytes : List ℕ) → 4 ≤ length bytes → total_by_two bytes ≡ big_number 4 (take 4 bytes) + total_by_two (drop 4 bytes)
by_two_next [] h = absurd (omega arith)
by_two_next (a ∷ []) h = absurd (omega arith)
by_two_next (a ∷ (b ∷ [])) h = absurd (omega arith)
by_two_next (a ∷ (b ∷ (c ∷ []))) h = absurd (omega arith)
by_two_next (a ∷ (b ∷ (c ∷ (d ∷ rest)))) h = omega arith

-- an even number of bytes that is below four is none, or one word
pub by_two_none : (bytes : List ℕ) → length bytes < 2 → length bytes % 2 ≡ 0 → total_by_two bytes ≡ 0
by_two_none [] h e = refl
by_two_none (a ∷ []) h e = absurd (omega arith)
by_two_none (a ∷ (b ∷ rest)) h e = absurd (omega arith)

pub by_two_one : (bytes : List ℕ) → length bytes < 4 → 2 ≤ length bytes → length bytes % 2 ≡ 0 → total_by_two bytes ≡ big_number 2 bytes
by_two_one [] h m e = absurd (omega arith)
by_two_one (a ∷ []) h m e = absurd (omega arith)
by_two_one (a ∷ (b ∷ [])) h m e = omega arith
by_two_one (a ∷ (b ∷ (c ∷ []))) h m e = absurd (omega arith)
by_two_one (a ∷ (b ∷ (c ∷ (d ∷ rest)))) h m e = absurd (omega arith)

-- such a sum is that of the words, and 2^16 - 1 for each time that a word counts 2^16 times
by_two_more : (bytes : List ℕ) → (more : ℕ) × (total_by_two bytes ≡ total (words bytes) + more * 65535) × (more ≤ total (words bytes))
by_two_more [] = (0, omega arith, omega arith)
by_two_more (a ∷ []) = (0, omega arith, omega arith)
by_two_more (a ∷ (b ∷ [])) = (0, omega arith, omega arith)
by_two_more (a ∷ (b ∷ (c ∷ []))) = (0, omega arith, omega arith)
by_two_more (a ∷ (b ∷ (c ∷ (d ∷ rest)))) =
    let behind = by_two_more rest in
    (256 * a + b + behind.0, omega (arith, behind.1), omega (arith, behind.2))

folded_more : (sum more : ℕ) → more ≤ sum → folded (sum + more * 65535) ≡ folded sum
folded_more zero more h =
    let none : 0 + more * 65535 ≡ 0 = omega (arith, h) in
    ap folded none
folded_more (suc n) more h =
    let moved : suc n + more * 65535 ≡ suc (n + more * 65535) = omega arith in
    let rest : (n + more * 65535) % 65535 ≡ n % 65535 = remainder_of (n + more * 65535) (n / 65535 + more) (n % 65535) (omega arith) (omega arith) in
    ap folded moved ∙ ap (λ k. 1 + k) rest

-- the sum of the words of bytes, once that by two is known
pub sum_of_words : (bytes : List ℕ) (sum : ℕ) → AreBytes bytes → sum ≡ total_by_two bytes → folded sum ≡ ones_sum (words bytes)
sum_of_words bytes sum h e =
    let more = by_two_more bytes in
    ap folded (e ∙ more.1) ∙ folded_more (total (words bytes)) more.0 more.2 ∙ sym (ones_sum_folded (words bytes) (AreWords-words bytes h))
