-- What marking keeps, and what it makes right.
use Rattle.std.proofs.Common.{◌≡◌, ◌≢◌, ℕ, ◌+◌, ◌-◌, ◌*◌, ◌/◌, ◌%◌, ◌<◌, ◌≤◌, zero, suc, true, false, nat_eq, cond, None, Ok, inl, inr, List, ◌++◌, length, take, drop, slice_index, slice_set, append_assoc, length-append, length-drop, add-zero, zero-add, refl, subst, sym, ◌∙◌, ap, arith}
use Rattle.std.proofs.lemmas.List.{drop-set-lt, get_or-drop, get_or-set_other, get_or-set_same, get_or-take, length-set, length-take-le, set-append_left, set-set, take-append-le, take-take}
use Rattle.std.proofs.lemmas.Bool.{cases_lt, cases_Bool}
use Rattle.std.proofs.lemmas.Bool.Decides.{nat_tests}
use Rattle.std.proofs.lemmas.Nat.{mod-mul-add}
use Rattle.std.proofs.lemmas.Slice.{drop-append-drop}
use Rattle.std.proofs.Math.Seq.{take-append-add, take-set-lt}
use Rattle.byteorder.specs.Endian.{big_bytes, big_number}
use Rattle.af_marker.specs.Checksums.{folded, ones_sum, words}
use Rattle.af_marker.specs.Headers.{fault_of, fields_of, header_length, header_of, is_verified, ports_of, total_length, unless}
use Rattle.af_marker.specs.Marks.{checksum_of, marked, with_checksum, with_dscp}
use Rattle.af_marker.proofs.ByteLaws.{Bytes, Bytes-append, Bytes-drop, Bytes-take, sum_folded, total-append, total-word}
use Rattle.af_marker.proofs.ChecksumLaws.{total}

front_is : (bytes : List ℕ) → 12 ≤ length bytes → length (take 10 bytes) ≡ 10
front_is bytes h = length-take-le 10 bytes (omega arith)

-- a new checksum keeps the length
pub length-with_checksum : (x : ℕ) (bytes : List ℕ) → 12 ≤ length bytes → length (with_checksum x bytes) ≡ length bytes
length-with_checksum x bytes h =
    let e = length-append (take 10 bytes) (big_bytes 2 x ++ drop 12 bytes) in
    omega (arith, e, front_is bytes h, length-drop 12 bytes)

front : (x : ℕ) (bytes : List ℕ) → 12 ≤ length bytes → take 10 (with_checksum x bytes) ≡ take 10 bytes
front x bytes h =
    take-append-le 10 (take 10 bytes) (big_bytes 2 x ++ drop 12 bytes) (omega (arith, front_is bytes h)) ∙ take-take 10 10 bytes (omega arith)

back : (x n : ℕ) (bytes : List ℕ) → 12 ≤ length bytes → 12 ≤ n → drop n (with_checksum x bytes) ≡ drop n bytes
back x n bytes h k =
    ap (drop n) (sym (append_assoc (take 10 bytes) (big_bytes 2 x) (drop 12 bytes)))
    ∙ drop-append-drop 12 bytes (take 10 bytes ++ big_bytes 2 x) n k (length-append (take 10 bytes) (big_bytes 2 x) ∙ ap (λ m. m + 2) (front_is bytes h))

-- only the last checksum counts
pub with_checksum_twice : (x y : ℕ) (bytes : List ℕ) → 12 ≤ length bytes → with_checksum x (with_checksum y bytes) ≡ with_checksum x bytes
with_checksum_twice x y bytes h = rw (front y bytes h, back y 12 bytes h (omega arith)) refl

take_past : (k n : ℕ) (xs ys : List ℕ) → length xs ≡ k → take (k + n) (xs ++ ys) ≡ xs ++ take n ys
take_past k n xs ys e = rw (← e) (take-append-add xs ys n)

front_kept : (x k : ℕ) (bytes : List ℕ) → 12 ≤ length bytes → k < 10 → slice_index (with_checksum x bytes) k ≡ slice_index bytes k
front_kept x k bytes h lt =
    sym (get_or-take 10 (with_checksum x bytes) k 0 lt) ∙ ap (λ (l : List ℕ). slice_index l k) (front x bytes h) ∙ get_or-take 10 bytes k 0 lt

back_kept : (x k : ℕ) (bytes : List ℕ) → 12 ≤ length bytes → 12 ≤ k → slice_index (with_checksum x bytes) k ≡ slice_index bytes k
back_kept x k bytes h le =
    let place : 12 + (k - 12) ≡ k = omega arith in
    ap (slice_index (with_checksum x bytes)) (sym place) ∙ sym (get_or-drop 12 (with_checksum x bytes) (k - 12) 0)
    ∙ ap (λ (l : List ℕ). slice_index l (k - 12)) (back x 12 bytes h (omega arith)) ∙ get_or-drop 12 bytes (k - 12) 0 ∙ ap (slice_index bytes) place

-- the sum of a header's words, its checksum apart
unfoldable pub rest_of : ℕ → List ℕ → ℕ
rest_of size bytes = total (words (take 10 bytes)) + total (words (take (size - 12) (drop 12 bytes)))

total_with : (x size : ℕ) (bytes : List ℕ) → x < 65536 → 12 ≤ size → size ≤ length bytes → total (words (take size (with_checksum x bytes))) ≡ x + rest_of size bytes
unfolding rest_of
total_with x size bytes fits least most =
    let ten = front_is bytes (omega arith) in
    let split : size ≡ 10 + (2 + (size - 12)) = omega arith in
    let cut : take size (with_checksum x bytes) ≡ take 10 bytes ++ (big_bytes 2 x ++ take (size - 12) (drop 12 bytes)) =
    ap (λ n. take n (with_checksum x bytes)) split
    ∙ take_past 10 (2 + (size - 12)) (take 10 bytes) (big_bytes 2 x ++ drop 12 bytes) ten
    ∙ ap (λ t. take 10 bytes ++ t) (take_past 2 (size - 12) (big_bytes 2 x) (drop 12 bytes) refl) in
    rw (cut, total-append (take 10 bytes) (big_bytes 2 x ++ take (size - 12) (drop 12 bytes)) (omega arith), total-word x (take (size - 12) (drop 12 bytes)) fits) (omega arith)

pub Bytes-with_checksum : (x : ℕ) (bytes : List ℕ) → Bytes bytes → Bytes (with_checksum x bytes)
Bytes-with_checksum x bytes h =
    Bytes-append (take 10 bytes) (big_bytes 2 x ++ drop 12 bytes) (Bytes-take 10 bytes h)
    (omega arith, (omega arith, Bytes-drop 12 bytes h))

pub sum_with : (x size : ℕ) (bytes : List ℕ) → Bytes (with_checksum x bytes) → x < 65536 → 12 ≤ size → size ≤ length bytes
    → ones_sum (words (take size (with_checksum x bytes))) ≡ folded (x + rest_of size bytes)
sum_with x size bytes all fits least most =
    sum_folded (take size (with_checksum x bytes)) (Bytes-take size (with_checksum x bytes) all)
    ∙ ap folded (total_with x size bytes fits least most)

-- the checksum that a header should have, by the plain sum of its other words
pub checksum_value : (bytes : List ℕ) → Bytes (with_checksum 0 bytes) → 12 ≤ header_length bytes → header_length bytes ≤ length bytes
    → checksum_of bytes ≡ 65535 - folded (rest_of (header_length bytes) bytes)
checksum_value bytes all least most =
    let others = rest_of (header_length bytes) bytes in
    ap (λ n. 65535 - n) (sum_with 0 (header_length bytes) bytes all (omega arith) least most ∙ ap folded (zero-add others))

-- the complement of a sum makes it all ones
all_ones : (n : ℕ) → folded (65535 - folded n + n) ≡ 65535
all_ones zero = refl
all_ones (suc n) =
    let e : 65535 - (1 + n % 65535) + suc n ≡ suc (n / 65535 * 65535 + 65534) = omega arith in
    rw e (ap (λ m. 1 + m) (mod-mul-add (n / 65535) 65535 65534 (omega arith)))

-- the byte that has the header's length is not the checksum's
length_kept : (x : ℕ) (bytes : List ℕ) → 12 ≤ length bytes → header_length (with_checksum x bytes) ≡ header_length bytes
length_kept x bytes h = ap (λ n. 4 * (n % 16)) (front_kept x 0 bytes h (omega arith))

-- a header with the checksum that it should have verifies
pub checksum_verifies : (bytes : List ℕ) → Bytes (with_checksum (checksum_of bytes) bytes) → 20 ≤ header_length bytes → header_length bytes ≤ length bytes
    → is_verified (with_checksum (checksum_of bytes) bytes) ≡ true
checksum_verifies bytes all least most =
    let size = header_length bytes in
    let others = rest_of size bytes in
    let bare : Bytes (with_checksum 0 bytes) =
    subst Bytes (with_checksum_twice 0 (checksum_of bytes) bytes (omega arith)) (Bytes-with_checksum 0 (with_checksum (checksum_of bytes) bytes) all) in
    let value = checksum_value bytes bare (omega arith) most in
    let sum : ones_sum (words (take (header_length (with_checksum (checksum_of bytes) bytes)) (with_checksum (checksum_of bytes) bytes))) ≡ 65535 =
    ap (λ n. ones_sum (words (take n (with_checksum (checksum_of bytes) bytes)))) (length_kept (checksum_of bytes) bytes (omega arith))
    ∙ sum_with (checksum_of bytes) size bytes all (omega arith) (omega arith) most ∙ ap (λ n. folded (n + others)) value ∙ all_ones others in
    ap (λ n. nat_eq n 65535) sum

-- a mark stays within the front
pub with_dscp_front : (x d : ℕ) (bytes : List ℕ) → 12 ≤ length bytes → with_dscp d (with_checksum x bytes) ≡ with_checksum x (with_dscp d bytes)
with_dscp_front x d bytes h =
    let v = 4 * d + slice_index bytes 1 % 4 in
    let ten = front_is bytes h in
    ap (λ n. slice_set (with_checksum x bytes) 1 (4 * d + n % 4)) (front_kept x 1 bytes h (omega arith))
    ∙ set-append_left (take 10 bytes) (big_bytes 2 x ++ drop 12 bytes) 1 v (omega arith)
    ∙ rw (take-set-lt 10 bytes 1 v (omega arith), drop-set-lt 12 bytes 1 v (omega arith)) refl

-- the last code point counts, and the lower two bits are those that came
with_dscp_twice : (d e : ℕ) (bytes : List ℕ) → 2 ≤ length bytes → with_dscp e (with_dscp d bytes) ≡ with_dscp e bytes
with_dscp_twice d e bytes h =
    let v = 4 * d + slice_index bytes 1 % 4 in
    let low : v % 4 ≡ slice_index bytes 1 % 4 = omega arith in
    ap (λ n. slice_set (slice_set bytes 1 v) 1 (4 * e + n % 4)) (get_or-set_same bytes 1 v 0 (omega arith))
    ∙ set-set bytes 1 v (4 * e + v % 4) ∙ ap (λ n. slice_set bytes 1 (4 * e + n)) low

checksum_of_same : (x : ℕ) (bytes : List ℕ) → 12 ≤ length bytes → checksum_of (with_checksum x bytes) ≡ checksum_of bytes
checksum_of_same x bytes h = rw (length_kept x bytes h, with_checksum_twice 0 x bytes h) refl

-- the lengths of a header that passes all tests
pub record IsWhole (bytes : List ℕ) : Type 0 where
  pub least : 20 ≤ header_length bytes
  pub most : header_length bytes ≤ length bytes
  pub within : header_length bytes ≤ total_length bytes

pub whole : (bytes : List ℕ) → fault_of bytes ≡ None → IsWhole bytes
unfolding fault_of
whole bytes h = record { least = grind (arith, nat_tests); most = grind (arith, nat_tests); within = grind (arith, nat_tests) }

pub marked_right : (d : ℕ) (bytes : List ℕ) → is_verified bytes ≡ true → marked d bytes ≡ with_checksum (checksum_of (with_dscp d bytes)) (with_dscp d bytes)
unfolding marked
marked_right d bytes v = ap (λ b. cond b (with_checksum (checksum_of (with_dscp d bytes)) (with_dscp d bytes)) (with_dscp d bytes)) v

pub marked_wrong : (d : ℕ) (bytes : List ℕ) → is_verified bytes ≡ false → marked d bytes ≡ with_dscp d bytes
unfolding marked
marked_wrong d bytes v = ap (λ b. cond b (with_checksum (checksum_of (with_dscp d bytes)) (with_dscp d bytes)) (with_dscp d bytes)) v

apart : (i j : ℕ) → i < j → i ≢ j
apart i j h e = omega arith

pub length_of_mark : (d : ℕ) (bytes : List ℕ) → header_length (with_dscp d bytes) ≡ header_length bytes
length_of_mark d bytes = ap (λ n. 4 * (n % 16)) (get_or-set_other bytes 1 0 (4 * d + slice_index bytes 1 % 4) 0 (apart 0 1 (omega arith)))

pub size_of_mark : (d : ℕ) (bytes : List ℕ) → length (with_dscp d bytes) ≡ length bytes
size_of_mark d bytes = length-set bytes 1 (4 * d + slice_index bytes 1 % 4)

-- a right checksum is right after a mark
pub marked_verifies : (d : ℕ) (bytes : List ℕ) → Bytes (marked d bytes) → IsWhole bytes → is_verified bytes ≡ true → is_verified (marked d bytes) ≡ true
marked_verifies d bytes all is_whole v =
    ap is_verified (marked_right d bytes v)
    ∙ checksum_verifies (with_dscp d bytes) (subst Bytes (marked_right d bytes v) all)
    (omega (arith, length_of_mark d bytes, is_whole.least)) (omega (arith, length_of_mark d bytes, size_of_mark d bytes, is_whole.most))

-- marking twice is marking once with the last code point
pub marked_twice : (d e : ℕ) (bytes : List ℕ) → Bytes (marked d bytes) → IsWhole bytes → is_verified bytes ≡ true → marked e (marked d bytes) ≡ marked e bytes
marked_twice d e bytes all is_whole v =
    let first = with_dscp d bytes in
    let x = checksum_of first in
    let last = with_dscp e bytes in
    let long : 20 ≤ length bytes = omega (arith, is_whole.least, is_whole.most) in
    let body : with_dscp e (with_checksum x first) ≡ with_checksum x last =
    with_dscp_front x e first (omega (arith, size_of_mark d bytes)) ∙ ap (with_checksum x) (with_dscp_twice d e bytes (omega arith)) in
    let twelve : 12 ≤ length last = omega (arith, size_of_mark e bytes) in
    marked_right e (marked d bytes) (marked_verifies d bytes all is_whole v)
    ∙ ap (λ b. with_checksum (checksum_of (with_dscp e b)) (with_dscp e b)) (marked_right d bytes v)
    ∙ ap (λ b. with_checksum (checksum_of b) b) body
    ∙ ap (λ n. with_checksum n (with_checksum x last)) (checksum_of_same x last twelve)
    ∙ with_checksum_twice (checksum_of last) x last twelve
    ∙ sym (marked_right e bytes v)

with_dscp_kept : (d k : ℕ) (bytes : List ℕ) → k ≢ 1 → slice_index (with_dscp d bytes) k ≡ slice_index bytes k
with_dscp_kept d k bytes other = get_or-set_other bytes 1 k (4 * d + slice_index bytes 1 % 4) 0 other

checksum_apart : (x k : ℕ) (bytes : List ℕ) → 12 ≤ length bytes → k ≢ 10 → k ≢ 11 → slice_index (with_checksum x bytes) k ≡ slice_index bytes k
checksum_apart x k bytes h ten eleven = elim (cases_lt k 10) [
  | inl before ↦ front_kept x k bytes h before
  | inr after ↦ back_kept x k bytes h (omega arith)
]

mark_apart : (d k : ℕ) (bytes : List ℕ) → IsWhole bytes → k ≢ 1 → k ≢ 10 → k ≢ 11 → slice_index (with_checksum (checksum_of (with_dscp d bytes)) (with_dscp d bytes)) k ≡ slice_index bytes k
mark_apart d k bytes is_whole one ten eleven =
    checksum_apart (checksum_of (with_dscp d bytes)) k (with_dscp d bytes) (omega (arith, size_of_mark d bytes, is_whole.least, is_whole.most)) ten eleven ∙ with_dscp_kept d k bytes one

-- no byte changes but byte 1 and the checksum's two
pub marked_apart : (d k : ℕ) (bytes : List ℕ) → IsWhole bytes → k ≢ 1 → k ≢ 10 → k ≢ 11 → slice_index (marked d bytes) k ≡ slice_index bytes k
marked_apart d k bytes is_whole one ten eleven = elim (cases_Bool (is_verified bytes)) [
  | inl right ↦ ap (λ (b : List ℕ). slice_index b k) (marked_right d bytes right) ∙ mark_apart d k bytes is_whole one ten eleven
  | inr wrong ↦ ap (λ (b : List ℕ). slice_index b k) (marked_wrong d bytes wrong) ∙ with_dscp_kept d k bytes one
]

number_same : (i : ℕ) (xs ys : List ℕ) → slice_index ys i ≡ slice_index xs i → slice_index ys (i + 1) ≡ slice_index xs (i + 1) → big_number 2 (drop i ys) ≡ big_number 2 (drop i xs)
number_same i xs ys first second =
    let a : slice_index (drop i ys) 0 ≡ slice_index (drop i xs) 0 = rw (get_or-drop i ys 0 0, get_or-drop i xs 0 0, add-zero) first in
    let b : slice_index (drop i ys) 1 ≡ slice_index (drop i xs) 1 = rw (get_or-drop i ys 1 0, get_or-drop i xs 1 0) second in
    rw (a, b) refl

-- what a header says but for its code point and whether it verifies
record IsSame (xs ys : List ℕ) : Type 0 where
  size : length ys ≡ length xs
  first : slice_index ys 0 ≡ slice_index xs 0
  total : total_length ys ≡ total_length xs
  protocol : slice_index ys 9 ≡ slice_index xs 9
  offset : big_number 2 (drop 6 ys) ≡ big_number 2 (drop 6 xs)
  after : (n : ℕ) → 12 ≤ n → drop n ys ≡ drop n xs

fault_same : (xs ys : List ℕ) → IsSame xs ys → fault_of ys ≡ fault_of xs
unfolding fault_of
fault_same xs ys same = rw (same.size, same.first, same.total) refl

ports_same : (xs ys : List ℕ) → 20 ≤ header_length xs → IsSame xs ys → ports_of ys ≡ ports_of xs
unfolding ports_of
ports_same xs ys least same =
    let source = same.after (header_length xs) (omega arith) in
    let target = same.after (header_length xs + 2) (omega arith) in
    rw (same.size, same.first, same.total, same.protocol, same.offset, source, target) refl

fields_same : (d : ℕ) (xs ys : List ℕ) → 20 ≤ header_length xs → IsSame xs ys → slice_index ys 1 / 4 ≡ d → is_verified ys ≡ is_verified xs
    → fields_of ys ≡ record (fields_of xs) { dscp = d }
unfolding fields_of
fields_same d xs ys least same code right =
    let source = same.after 12 (omega arith) in
    let target = same.after 16 (omega arith) in
    rw (right, ports_same xs ys least same, same.first, same.total, same.protocol, same.offset, source, target, code) refl

same_marked : (d : ℕ) (bytes : List ℕ) → IsWhole bytes → IsSame bytes (with_checksum (checksum_of (with_dscp d bytes)) (with_dscp d bytes))
same_marked d bytes is_whole =
    let x = checksum_of (with_dscp d bytes) in
    let long : 12 ≤ length (with_dscp d bytes) = omega (arith, size_of_mark d bytes, is_whole.least, is_whole.most) in
    let kept : (k : ℕ) → k ≢ 1 → k ≢ 10 → k ≢ 11 → slice_index (with_checksum x (with_dscp d bytes)) k ≡ slice_index bytes k = λ k. mark_apart d k bytes is_whole in
    record {
      size = length-with_checksum x (with_dscp d bytes) long ∙ size_of_mark d bytes;
      first = kept 0 (λ e. omega arith) (λ e. omega arith) (λ e. omega arith);
      total = number_same 2 bytes (with_checksum x (with_dscp d bytes)) (kept 2 (λ e. omega arith) (λ e. omega arith) (λ e. omega arith)) (kept 3 (λ e. omega arith) (λ e. omega arith) (λ e. omega arith));
      protocol = kept 9 (λ e. omega arith) (λ e. omega arith) (λ e. omega arith);
      offset = number_same 6 bytes (with_checksum x (with_dscp d bytes)) (kept 6 (λ e. omega arith) (λ e. omega arith) (λ e. omega arith)) (kept 7 (λ e. omega arith) (λ e. omega arith) (λ e. omega arith));
      after = λ n h. back x n (with_dscp d bytes) long h ∙ drop-set-lt n bytes 1 (4 * d + slice_index bytes 1 % 4) (omega arith);
    }

code_of_mark : (d x : ℕ) (bytes : List ℕ) → 12 ≤ length bytes → slice_index (with_checksum x (with_dscp d bytes)) 1 / 4 ≡ d
code_of_mark d x bytes h =
    let v = 4 * d + slice_index bytes 1 % 4 in
    let kept = front_kept x 1 (with_dscp d bytes) (omega (arith, size_of_mark d bytes)) (omega arith) in
    let put = get_or-set_same bytes 1 v 0 (omega arith) in
    ap (λ n. n / 4) (kept ∙ put) ∙ omega arith

-- the header after a mark, where the checksum was right: as it was, with the code point
pub header_of_marked : (d : ℕ) (bytes : List ℕ) → Bytes (marked d bytes) → fault_of bytes ≡ None → is_verified bytes ≡ true
    → header_of (marked d bytes) ≡ Ok (record (fields_of bytes) { dscp = d })
unfolding header_of
header_of_marked d bytes all passes v =
    let is_whole = whole bytes passes in
    let new = with_checksum (checksum_of (with_dscp d bytes)) (with_dscp d bytes) in
    let is : marked d bytes ≡ new = marked_right d bytes v in
    let same : IsSame bytes new = same_marked d bytes is_whole in
    let right : is_verified new ≡ is_verified bytes = ap is_verified (sym is) ∙ marked_verifies d bytes all is_whole v ∙ sym v in
    let code = code_of_mark d (checksum_of (with_dscp d bytes)) bytes (omega (arith, is_whole.least, is_whole.most)) in
    ap header_of is ∙ ap (λ f. unless f (fields_of new)) (fault_same bytes new same ∙ passes)
    ∙ ap Ok (fields_same d bytes new is_whole.least same code right)
