-- Digits that are read at once, as lanes of a vector.
use Rattle.std.proofs.Common.{◌≡◌, ℕ, zero, suc, ◌+◌, ◌-◌, ◌*◌, ◌%◌, ◌^◌, ◌<◌, ◌≤◌, eqb, ltb, Bool, true, false, not, w8, Fits, subst, map, get_or, replicate, List, [], ◌∷◌, ◌++◌, length, take, drop, fold, cond, refl, sym, ap, ◌∙◌, inl, inr, arith, length-append}
use Rattle.std.proofs.lemmas.Bool.{agree_below_at, cases_lt, lt-ltb, le-ltb}
use Rattle.std.proofs.lemmas.List.{ext_get_or, length-map, length-replicate, length-take-le, take-take}
use Rattle.std.proofs.lemmas.List.FromFn.{length-map-range_with_len, get_or-map-range_with_len}
use Rattle.std.proofs.lemmas.List.Sums.{prefix_len-le-length}
use Rattle.std.proofs.lemmas.Simd.{Each1-replicate, SwzOk, first_set_mask_l, mask_l-mod, swz_l, tops_compared, zip2_splat_left}
use Rattle.std.proofs.lemmas.Bool.Decides.{nat_tests}
use Rattle.std.specs.Prelude.{⊤}
use Rattle.std.specs.Char.{is_ascii_digit}
use Rattle.std.specs.List.{prefix_len, range_with_len}
use Rattle.std.specs.Simd.Lanes.{Each1, chunk, mask_l, pair_sums, products, top, zip2}
use lib.Count.{count_trailing_zeros}
use Rattle.line_text.specs.Digits.{AreDigits, number_in}
use Rattle.line_text.specs.Numbers.{value_of, with_digit}
use Rattle.line_text.specs.declared.digits.TheConstants.{PLACES}

-- ---- lanes that are written out

abbrev Each : (ℕ → Type 0) → ℕ → Type 0
Each P zero = ⊤
Each P (suc n) = P n × Each P n

each : (P : ℕ → Type 0) (n k : ℕ) → Each P n → k < n → P k
each P zero k h l = absurd (omega arith)
each P (suc n) k h l = elim (cases_lt k n) [ inl a ↦ each P n k h.1 a | inr a ↦ let e : n ≡ k = omega arith in subst P e h.0 ]

abbrev listed : (ℕ → ℕ) → ℕ → List ℕ
listed f n = map f (range_with_len 0 n)

-- a fact of each list of n numbers, from the same of n numbers written out
spelled : (P : List ℕ → Type 0) (n : ℕ) → ((f : ℕ → ℕ) → P (listed f n)) → (xs : List ℕ) → length xs ≡ n → P xs
spelled P n h xs long =
    let f = λ (k : ℕ). get_or xs k 0 in
    let many = length-map-range_with_len f 0 n in
    subst P (ext_get_or 0 _ xs (many ∙ sym long) (λ i l. get_or-map-range_with_len f 0 n i i 0 (omega arith) (omega arith))) (h f)

-- ---- the digits moved to the end

-- the places of lanes, where so many are moved back
abbrev pub places : ℕ → List ℕ
places count = chunk 0 16 (take (32 - count) (drop count PLACES))

abbrev Oks : ℕ → Type 0
Oks zero = ⊤
Oks (suc n) = ⊤ × Oks n

abbrev oks : (n : ℕ) → Oks n
oks zero = tt
oks (suc n) = (tt, oks n)

abbrev pub IsMoved : List ℕ → ℕ → Type 0
IsMoved xs count = SwzOk w8 16 16 0 (places count) × (swz_l w8 16 xs 0 (places count) ≡ replicate (16 - count) 0 ++ take count xs)

pub moved : (count : ℕ) → count ≤ 16 → (xs : List ℕ) → length xs ≡ 16 → IsMoved xs count
moved count few =
    spelled (λ xs. IsMoved xs count) 16 (λ f. each (IsMoved (listed f 16)) 17 count
    ((oks 16, refl), ((oks 16, refl), ((oks 16, refl), ((oks 16, refl), ((oks 16, refl), ((oks 16, refl), ((oks 16, refl), ((oks 16, refl), ((oks 16, refl), ((oks 16, refl), ((oks 16, refl), ((oks 16, refl), ((oks 16, refl), ((oks 16, refl), ((oks 16, refl), ((oks 16, refl), ((oks 16, refl), tt)))))))))))))))))
    (omega arith))

-- ---- how many digits stand at the front

abbrev pub above : ℕ → ℕ → ℕ
above a b = cond (ltb a b) 255 0

-- the lanes above 9, as bits
abbrev pub others : List ℕ → ℕ
others xs = mask_l (map (top 7) (zip2 above (replicate 16 9) xs)) % 2 ^ 64

abbrev pub is_digit : ℕ → Bool
is_digit digit = not (ltb 9 digit)

others_are : (xs : List ℕ) → length xs ≡ 16 → others xs ≡ mask_l (map (ltb 9) xs)
others_are xs long =
    ap (λ l. mask_l l % 2 ^ 64) (tops_compared w8 ltb (replicate 16 9) xs ∙ zip2_splat_left ltb 9 16 xs long)
    ∙ mask_l-mod (map (ltb 9) xs) 64 (omega (arith, length-map xs (ltb 9), long))

pub count_is : (xs : List ℕ) → length xs ≡ 16 → cond (eqb (others xs) 0) 16 (count_trailing_zeros 64 (others xs)) ≡ prefix_len is_digit xs
count_is xs long =
    ap (λ m. cond (eqb m 0) 16 (count_trailing_zeros 64 m)) (others_are xs long) ∙ first_set_mask_l (ltb 9) xs 16 long (omega arith)

-- ---- what four digits say, and four times four

abbrev pub times : ℕ → ℕ → ℕ
times a b = a * b % 2 ^ 32

abbrev pub plus : ℕ → ℕ → ℕ
plus a b = (a + b) % 2 ^ 32

lane_is : (a b c d : ℕ) → a < 10 → b < 10 → c < 10 → d < 10
    → plus (times (a * 10 + b * 1 + (c * 0 + d * 0)) 100) (a * 0 + b * 0 + (c * 10 + d * 1)) ≡ number_in (a ∷ b ∷ c ∷ d ∷ [])
lane_is a b c d ha hb hc hd = omega arith

abbrev pub front_weights : List ℕ
front_weights = 10 ∷ 1 ∷ 0 ∷ 0 ∷ 10 ∷ 1 ∷ 0 ∷ 0 ∷ 10 ∷ 1 ∷ 0 ∷ 0 ∷ 10 ∷ 1 ∷ 0 ∷ 0 ∷ []

abbrev pub back_weights : List ℕ
back_weights = 0 ∷ 0 ∷ 10 ∷ 1 ∷ 0 ∷ 0 ∷ 10 ∷ 1 ∷ 0 ∷ 0 ∷ 10 ∷ 1 ∷ 0 ∷ 0 ∷ 10 ∷ 1 ∷ []

abbrev pub fours_of : List ℕ → List ℕ
fours_of xs =
    zip2 plus (zip2 times (pair_sums (pair_sums (products xs front_weights))) (100 ∷ 100 ∷ 100 ∷ 100 ∷ []))
    (pair_sums (pair_sums (products xs back_weights)))

pub fours_are : (xs : List ℕ) → AreDigits xs
    → fours_of xs ≡ number_in (chunk 0 4 xs) ∷ number_in (chunk 4 4 xs) ∷ number_in (chunk 8 4 xs) ∷ number_in (chunk 12 4 xs) ∷ []
fours_are xs digits =
    spelled (λ xs. Each1 (λ digit. digit < 10) xs
    → fours_of xs ≡ number_in (chunk 0 4 xs) ∷ number_in (chunk 4 4 xs) ∷ number_in (chunk 8 4 xs) ∷ number_in (chunk 12 4 xs) ∷ []) 16
    (λ f h. λ i. lane_is (f 0) (f 1) (f 2) (f 3) h.0 h.1.0 h.1.1.0 h.1.1.1.0 i
    ∷ lane_is (f 4) (f 5) (f 6) (f 7) h.1.1.1.1.0 h.1.1.1.1.1.0 h.1.1.1.1.1.1.0 h.1.1.1.1.1.1.1.0 i
    ∷ lane_is (f 8) (f 9) (f 10) (f 11) h.1.1.1.1.1.1.1.1.0 h.1.1.1.1.1.1.1.1.1.0 h.1.1.1.1.1.1.1.1.1.1.0 h.1.1.1.1.1.1.1.1.1.1.1.0 i
    ∷ lane_is (f 12) (f 13) (f 14) (f 15) h.1.1.1.1.1.1.1.1.1.1.1.1.0 h.1.1.1.1.1.1.1.1.1.1.1.1.1.0 h.1.1.1.1.1.1.1.1.1.1.1.1.1.1.0 h.1.1.1.1.1.1.1.1.1.1.1.1.1.1.1.0 i
    ∷ [])
    xs digits.count digits.each

pub number_by_fours : (xs : List ℕ) → length xs ≡ 16
    → ((number_in (chunk 0 4 xs) * 10000 + number_in (chunk 4 4 xs)) * 10000 + number_in (chunk 8 4 xs)) * 10000 + number_in (chunk 12 4 xs) ≡ number_in xs
number_by_fours = spelled
    (λ xs. ((number_in (chunk 0 4 xs) * 10000 + number_in (chunk 4 4 xs)) * 10000 + number_in (chunk 8 4 xs)) * 10000 + number_in (chunk 12 4 xs) ≡ number_in xs)
    16 (λ f. omega arith)

-- ---- what the digits at the front of a text say

-- a byte as a digit
abbrev pub as_digit : ℕ → ℕ
as_digit byte = (byte + (2 ^ 8 - 48)) % 2 ^ 8

each_append : (P : ℕ → Type 0) (xs ys : List ℕ) → Each1 P xs → Each1 P ys → Each1 P (xs ++ ys)
each_append P [] ys a b = b
each_append P (x ∷ xs) ys a b = (a.0, each_append P xs ys a.1 b)

front_below : (xs : List ℕ) → Each1 (λ digit. digit < 10) (take (prefix_len is_digit xs) xs)
front_below [] = tt
front_below (x ∷ xs) =
    let one : 1 + prefix_len is_digit xs ≡ suc (prefix_len is_digit xs) = omega arith in
    elim (cases_lt 9 x) [
      | inl over ↦ rw (lt-ltb 9 x over) tt
      | inr within ↦ rw (le-ltb 9 x within, one) (omega (arith, within), front_below xs)
    ]

-- the digits at the front, moved to the end, are digits, and the zeros before them
pub moved_digits : (xs lanes : List ℕ) (count : ℕ) → length xs ≡ 16 → count ≡ prefix_len is_digit xs
    → lanes ≡ replicate (16 - count) 0 ++ take count xs → AreDigits lanes
moved_digits xs lanes count long is moved_ =
    let within : count ≤ length xs = omega (arith, is, prefix_len-le-length is_digit xs) in
    let few : count ≤ 16 = omega (arith, within, long) in
    record {
      count = ap length moved_ ∙ length-append (replicate (16 - count) 0) (take count xs) ∙ omega (arith, few, length-replicate {A = ℕ} (16 - count) 0, length-take-le count xs within);
      each =
          rw moved_ (each_append (λ digit. digit < 10) (replicate (16 - count) 0) (take count xs)
          (Each1-replicate (λ digit. digit < 10) (16 - count) 0 (omega arith)) (rw is (front_below xs)));
    }

zeros : (count : ℕ) (digits : List ℕ) → number_in (replicate count 0 ++ digits) ≡ number_in digits
zeros zero digits = refl
zeros (suc count) digits = zeros count digits

digit_as : (byte : ℕ) → byte < 256 → is_digit (as_digit byte) ≡ is_ascii_digit byte
digit_as byte h = agree_below_at (λ x. is_digit (as_digit x)) is_ascii_digit 256 byte refl h

digit_says : (value byte : ℕ) → is_ascii_digit byte ≡ true → 10 * value + as_digit byte ≡ with_digit value byte
digit_says value byte digit = grind (arith, nat_tests)

-- as many bytes at the front are digits
pub same_count : (xs : List ℕ) → Each1 (Fits w8) xs → prefix_len is_digit (map as_digit xs) ≡ prefix_len is_ascii_digit xs
same_count [] fits = refl
same_count (x ∷ xs) fits = rw (digit_as x fits.0.fits, same_count xs fits.1) refl

front_by : (value byte : ℕ) (bytes : List ℕ) (test : Bool) → is_ascii_digit byte ≡ test
    → fold (λ value digit. 10 * value + digit) (with_digit value byte) (take (prefix_len is_ascii_digit bytes) (map as_digit bytes))
    ≡ fold with_digit (with_digit value byte) (take (prefix_len is_ascii_digit bytes) bytes)
    → fold (λ value digit. 10 * value + digit) value (take (cond test (1 + prefix_len is_ascii_digit bytes) 0) (map as_digit (byte ∷ bytes)))
    ≡ fold with_digit value (take (cond test (1 + prefix_len is_ascii_digit bytes) 0) (byte ∷ bytes))
front_by value byte bytes false other later = refl
front_by value byte bytes true digit later =
    let one : 1 + prefix_len is_ascii_digit bytes ≡ suc (prefix_len is_ascii_digit bytes) = omega arith in
    rw one (ap (λ n. fold (λ value digit. 10 * value + digit) n (take (prefix_len is_ascii_digit bytes) (map as_digit bytes))) (digit_says value byte digit) ∙ later)

front_says : (value : ℕ) (bytes : List ℕ)
    → fold (λ value digit. 10 * value + digit) value (take (prefix_len is_ascii_digit bytes) (map as_digit bytes))
    ≡ fold with_digit value (take (prefix_len is_ascii_digit bytes) bytes)
front_says value [] = refl
front_says value (byte ∷ bytes) = front_by value byte bytes (is_ascii_digit byte) refl (front_says (with_digit value byte) bytes)

-- and they say the same number
pub same_value : (text bytes digits lanes : List ℕ) (count value : ℕ) → bytes ≡ take 16 text → digits ≡ map as_digit bytes
    → count ≡ prefix_len is_ascii_digit bytes → count ≤ 16 → lanes ≡ replicate (16 - count) 0 ++ take count digits → value ≡ number_in lanes
    → value ≡ value_of (take count text)
unfolding value_of
same_value text bytes digits lanes count value bytes_are digits_are is few moved_ says =
    let front : number_in (take count digits) ≡ fold with_digit 0 (take count bytes) = rw (digits_are, is) (front_says 0 bytes) in
    says ∙ ap number_in moved_ ∙ zeros (16 - count) (take count digits) ∙ front
    ∙ ap (λ xs. fold with_digit 0 (take count xs)) bytes_are ∙ ap (λ xs. fold with_digit 0 xs) (take-take count 16 text few)
