-- Lists of bytes, and the plain sum of their words.
use Rattle.std.proofs.Common.{◌≡◌, ℕ, ◌+◌, ◌%◌, ◌<◌, zero, suc, List, [], ◌∷◌, ◌++◌, length, take, drop, slice_set, arith}
use Rattle.byteorder.specs.Endian.{big_bytes}
use Rattle.af_marker.specs.Checksums.{folded, ones_sum, words}
use Rattle.af_marker.proofs.ChecksumLaws.{AreBytes, AreBytes-rest, AreWords, ones_sum_folded, total}

-- every item is a byte
abbrev pub Bytes : List ℕ → Type 0
Bytes [] = Unit {0}
Bytes (x ∷ xs) = (x < 256) × Bytes xs

pub Bytes-of_items : (xs : List ℕ) → AreBytes xs → Bytes xs
Bytes-of_items [] h = tt
Bytes-of_items (x ∷ xs) h = (h 0, Bytes-of_items xs (AreBytes-rest x xs h))

pub Bytes-append : (xs ys : List ℕ) → Bytes xs → Bytes ys → Bytes (xs ++ ys)
Bytes-append [] ys h k = k
Bytes-append (x ∷ xs) ys h k = (h.0, Bytes-append xs ys h.1 k)

pub Bytes-take : (n : ℕ) (xs : List ℕ) → Bytes xs → Bytes (take n xs)
Bytes-take zero xs h = tt
Bytes-take (suc n) [] h = tt
Bytes-take (suc n) (x ∷ xs) h = (h.0, Bytes-take n xs h.1)

pub Bytes-drop : (n : ℕ) (xs : List ℕ) → Bytes xs → Bytes (drop n xs)
Bytes-drop zero xs h = h
Bytes-drop (suc n) [] h = tt
Bytes-drop (suc n) (x ∷ xs) h = Bytes-drop n xs h.1

pub Bytes-set : (xs : List ℕ) (i v : ℕ) → Bytes xs → v < 256 → Bytes (slice_set xs i v)
Bytes-set [] i v h k = tt
Bytes-set (x ∷ xs) zero v h k = (k, h.1)
Bytes-set (x ∷ xs) (suc i) v h k = (h.0, Bytes-set xs i v h.1 k)

-- the sum of words is the folded plain sum
words_fit : (xs : List ℕ) → Bytes xs → AreWords (words xs)
words_fit [] h = tt
words_fit (a ∷ []) h = (omega (arith, h.0), tt)
words_fit (a ∷ (b ∷ xs)) h = (omega (arith, h.0, h.1.0), words_fit xs h.1.1)

pub sum_folded : (xs : List ℕ) → Bytes xs → ones_sum (words xs) ≡ folded (total (words xs))
sum_folded xs h = ones_sum_folded (words xs) (words_fit xs h)

-- after an even number of bytes the words go on
pub total-append : (xs ys : List ℕ) → length xs % 2 ≡ 0 → total (words (xs ++ ys)) ≡ total (words xs) + total (words ys)
total-append [] ys e = omega arith
total-append (a ∷ []) ys e = absurd (omega arith)
total-append (a ∷ (b ∷ xs)) ys e = let rest = total-append xs ys (omega arith) in omega (arith, rest)

-- the two bytes of a word are that word
pub total-word : (x : ℕ) (ys : List ℕ) → x < 65536 → total (words (big_bytes 2 x ++ ys)) ≡ x + total (words ys)
total-word x ys h = omega arith
