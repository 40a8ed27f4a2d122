-- A checksum that is brought up to date is the one that the header should have (RFC 1624 section 3, equation 3).
use Rattle.std.proofs.Common.{◌≡◌, ℕ, ◌+◌, ◌-◌, ◌*◌, ◌/◌, ◌%◌, ◌<◌, ◌≤◌, zero, suc, true, None, List, [], ◌∷◌, ◌++◌, length, take, drop, slice_index, slice_set, length-drop, sym, ◌∙◌, ap, arith}
use Rattle.std.proofs.lemmas.Bool.{eqb-true}
use Rattle.std.proofs.lemmas.Bool.Decides.{nat_tests}
use Rattle.std.proofs.lemmas.List.{drop-drop, drop-set-lt, get_or-set_other, get_or-take, length-take-le}
use Rattle.std.proofs.Math.Nat.{add-mul-mod_self_right}
use Rattle.std.proofs.Math.Seq.{take-add, take-set-lt}
use Rattle.byteorder.specs.Endian.{big_number}
use Rattle.af_marker.specs.Checksums.{folded, ones_sum, updated, words}
use Rattle.af_marker.specs.Headers.{fault_of, header_length, is_verified}
use Rattle.af_marker.specs.Marks.{checksum_of, with_checksum, with_dscp}
use Rattle.af_marker.proofs.ByteLaws.{Bytes, Bytes-drop, Bytes-set, Bytes-take, sum_folded, total-append}
use Rattle.af_marker.proofs.ChecksumLaws.{total}
use Rattle.af_marker.proofs.MarkLaws.{Bytes-with_checksum, checksum_value, length_of_mark, rest_of, size_of_mark, whole}

-- what is left of two sums that are not 0 is the same where they differ by a multiple of all ones
same_folded : (a b most more : ℕ) → 0 < a → 0 < b → a + most * 65535 ≡ b + more * 65535 → folded a ≡ folded b
same_folded zero b most more some other e = absurd (omega arith)
same_folded (suc a) zero most more some other e = absurd (omega arith)
same_folded (suc a) (suc b) most more some other e =
    let inner : a + most * 65535 ≡ b + more * 65535 = omega arith in
    ap (λ n. 1 + n) (sym (add-mul-mod_self_right a most 65535) ∙ ap (λ n. n % 65535) inner ∙ add-mul-mod_self_right b more 65535)

-- a sum of which all ones are left is a multiple of all ones
multiple : (n : ℕ) → folded n ≡ 65535 → n ≡ n / 65535 * 65535
multiple zero e = absurd (omega arith)
multiple (suc n) e = omega arith

-- the sum of the words of a list whose second byte is another
total-set : (xs : List ℕ) (v : ℕ) → 2 ≤ length xs → total (words (slice_set xs 1 v)) + slice_index xs 1 ≡ total (words xs) + v
total-set [] v h = absurd (omega arith)
total-set (a ∷ []) v h = absurd (omega arith)
total-set (a ∷ (b ∷ rest)) v h = omega arith

-- the first word is not above the sum
total-first : (xs : List ℕ) → 2 ≤ length xs → 256 * slice_index xs 0 ≤ total (words xs)
total-first [] h = absurd (omega arith)
total-first (a ∷ []) h = absurd (omega arith)
total-first (a ∷ (b ∷ rest)) h = omega arith

total-next : (n : ℕ) (xs : List ℕ) → 2 ≤ length xs → total (words (take (2 + n) xs)) ≡ big_number 2 xs + total (words (take n (drop 2 xs)))
total-next n [] h = absurd (omega arith)
total-next n (a ∷ []) h = absurd (omega arith)
total-next n (a ∷ (b ∷ rest)) h =
    let e : 2 + n ≡ suc (suc n) = omega arith in
    ap (λ k. total (words (take k (a ∷ (b ∷ rest))))) e ∙ omega arith

-- the sum of a header's words is its checksum and the others
total_of : (size : ℕ) (bytes : List ℕ) → 12 ≤ size → size ≤ length bytes → total (words (take size bytes)) ≡ big_number 2 (drop 10 bytes) + rest_of size bytes
unfolding rest_of
total_of size bytes least most =
    let split : size ≡ 10 + (2 + (size - 12)) = omega arith in
    let cut : take size bytes ≡ take 10 bytes ++ take (2 + (size - 12)) (drop 10 bytes) =
    ap (λ n. take n bytes) split ∙ take-add 10 (2 + (size - 12)) bytes in
    let ten : length (take 10 bytes) ≡ 10 = length-take-le 10 bytes (omega arith) in
    let back = total-next (size - 12) (drop 10 bytes) (omega (arith, length-drop 10 bytes)) in
    let on : drop 2 (drop 10 bytes) ≡ drop 12 bytes = drop-drop 2 10 bytes in
    rw (cut, total-append (take 10 bytes) (take (2 + (size - 12)) (drop 10 bytes)) (omega arith), back, on) (omega arith)

-- and with another byte of the type of service
rest_of_mark : (d size : ℕ) (bytes : List ℕ) → 12 ≤ length bytes
    → rest_of size (with_dscp d bytes) + slice_index bytes 1 ≡ rest_of size bytes + (4 * d + slice_index bytes 1 % 4)
unfolding rest_of
rest_of_mark d size bytes h =
    let v = 4 * d + slice_index bytes 1 % 4 in
    let ten : length (take 10 bytes) ≡ 10 = length-take-le 10 bytes (omega arith) in
    let front = total-set (take 10 bytes) v (omega arith) in
    let same : slice_index (take 10 bytes) 1 ≡ slice_index bytes 1 = get_or-take 10 bytes 1 0 (omega arith) in
    rw (take-set-lt 10 bytes 1 v (omega arith), drop-set-lt 12 bytes 1 v (omega arith)) (omega (arith, front, same))

rest_of_first : (size : ℕ) (bytes : List ℕ) → 12 ≤ length bytes → 256 * slice_index bytes 0 ≤ rest_of size bytes
unfolding rest_of
rest_of_first size bytes h =
    let ten : length (take 10 bytes) ≡ 10 = length-take-le 10 bytes (omega arith) in
    let first = total-first (take 10 bytes) (omega arith) in
    let same : slice_index (take 10 bytes) 0 ≡ slice_index bytes 0 = get_or-take 10 bytes 0 0 (omega arith) in
    omega (arith, first, same)

byte_at : (i : ℕ) (bytes : List ℕ) → Bytes bytes → slice_index bytes i < 256
byte_at i [] h = omega arith
byte_at zero (x ∷ xs) h = h.0
byte_at (suc i) (x ∷ xs) h = byte_at i xs h.1

checksum_fits : (bytes : List ℕ) → Bytes bytes → big_number 2 (drop 10 bytes) < 65536
checksum_fits bytes h =
    let high = byte_at 0 (drop 10 bytes) (Bytes-drop 10 bytes h) in
    let low = byte_at 1 (drop 10 bytes) (Bytes-drop 10 bytes h) in
    omega (arith, high, low)

first_kept : (d : ℕ) (bytes : List ℕ) → slice_index (with_dscp d bytes) 0 ≡ slice_index bytes 0
first_kept d bytes = get_or-set_other bytes 1 0 (4 * d + slice_index bytes 1 % 4) 0 (λ e. omega arith)

is_version_4 : (bytes : List ℕ) → fault_of bytes ≡ None → slice_index bytes 0 / 16 ≡ 4
unfolding fault_of
is_version_4 bytes h = grind (arith, nat_tests)

all_ones_of : (bytes : List ℕ) → is_verified bytes ≡ true → ones_sum (words (take (header_length bytes) bytes)) ≡ 65535
all_ones_of bytes h = eqb-true (ones_sum (words (take (header_length bytes) bytes))) 65535 h

-- brought up to date from the byte of the type of service, a right checksum is the one that the marked header should have
pub updated_is : (d : ℕ) (bytes : List ℕ) → Bytes bytes → 4 * d + slice_index bytes 1 % 4 < 256 → fault_of bytes ≡ None → is_verified bytes ≡ true
    → updated (big_number 2 (drop 10 bytes)) (slice_index bytes 1) (4 * d + slice_index bytes 1 % 4) ≡ checksum_of (with_dscp d bytes)
updated_is d bytes all fits passes right =
    let is_whole = whole bytes passes in
    let size = header_length bytes in
    let x = big_number 2 (drop 10 bytes) in
    let before = slice_index bytes 1 in
    let after = 4 * d + before % 4 in
    let others = rest_of size bytes in
    let others_after = rest_of size (with_dscp d bytes) in
    let long : 12 ≤ length bytes = omega (arith, is_whole.least, is_whole.most) in
    let sum : folded (x + others) ≡ 65535 =
    ap folded (sym (total_of size bytes (omega (arith, is_whole.least)) is_whole.most)) ∙ sym (sum_folded (take size bytes) (Bytes-take size bytes all)) ∙ all_ones_of bytes right in
    let whole_sum : x + others ≡ (x + others) / 65535 * 65535 = multiple (x + others) sum in
    let moved : others_after + before ≡ others + after = rest_of_mark d size bytes long in
    let some : 0 < others_after = omega (arith, rest_of_first size (with_dscp d bytes) (omega (arith, size_of_mark d bytes)), is_version_4 bytes passes, first_kept d bytes) in
    let top : x < 65536 = checksum_fits bytes all in
    let low : before < 256 = byte_at 1 bytes all in
    let same : folded (65535 - x + (65535 - before) + after) ≡ folded others_after =
    same_folded (65535 - x + (65535 - before) + after) others_after ((x + others) / 65535) 2 (omega arith) some (omega arith) in
    let bare : Bytes (with_checksum 0 (with_dscp d bytes)) = Bytes-with_checksum 0 (with_dscp d bytes) (Bytes-set bytes 1 after all fits) in
    let marked_size : header_length (with_dscp d bytes) ≡ size = length_of_mark d bytes in
    let value = checksum_value (with_dscp d bytes) bare (omega (arith, is_whole.least)) (omega (arith, is_whole.most, size_of_mark d bytes)) in
    ap (λ n. 65535 - n) (same ∙ ap (λ n. folded (rest_of n (with_dscp d bytes))) (sym marked_size)) ∙ sym value
