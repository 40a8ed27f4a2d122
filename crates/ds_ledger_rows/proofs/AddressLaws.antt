-- A text is that of one address.
use Rattle.std.proofs.Common.{◌≡◌, ◌<◌, ◌^◌, ◌*◌, ◌+◌, ◌/◌, ◌%◌, ℕ, zero, suc, List, [], ◌∷◌, length, drop, refl, sym, ap, subst, ◌∙◌, arith, get_or}
use Rattle.std.proofs.Math.Arith.{mod-mul}
use Rattle.std.proofs.Math.Nat.{pow-suc, pow-succ', mod-lt, mod-eq_of_lt}
use Rattle.std.specs.Int.{to_be_bytes, w128, byte_at, bytes_high_first}
use Rattle.std.specs.Net.Addr.{segments_of}
use Rattle.std.specs.Net.Text.{ipv6_text}
use Rattle.std.specs.Net.Grammar.{IsIpv6Text}
use Rattle.std.specs.declared.net.ipv6_addr.Ipv6Addr.{Ipv6Addr}
use Rattle.std.proofs.NetLemmas.Theorems.{IsIpv6Text_unique}
use Rattle.std.proofs.NetLemmas.Texts.{AllSegments, IsColonHex-ipv6_text}
use Rattle.ds_ledger_rows.specs.Cells.{address_text}

power : (k : ℕ) → 0 < 256 ^ k
power zero = omega arith
power (suc k) = let before = power k in rw (pow-suc 256 k) (omega arith)

-- ---- bytes

byte_small : (k n : ℕ) → byte_at k n < 256
byte_small zero n = mod-lt n (omega arith)
byte_small (suc k) n = mod-lt (n / 256 ^ suc k) (omega arith)

bytes_small : (k n i : ℕ) → get_or (bytes_high_first k n) i 0 < 256
bytes_small zero n i = omega arith
bytes_small (suc k) n zero = byte_small k n
bytes_small (suc k) n (suc i) = bytes_small k n i

bytes_long : (k n : ℕ) → length (bytes_high_first k n) ≡ k
bytes_long zero n = refl
bytes_long (suc k) n = ap suc (bytes_long k n)

-- the next byte, and what is left
split : (k n : ℕ) → n % 256 ^ suc k ≡ byte_at k n * 256 ^ k + n % 256 ^ k
split zero n = omega arith
split (suc k) n = ap (λ (m : ℕ). n % m) (pow-succ' 256 (suc k)) ∙ mod-mul n (omega arith) (power (suc k))

rest_same : (k n m : ℕ) → bytes_high_first k n ≡ bytes_high_first k m → n % 256 ^ k ≡ m % 256 ^ k
rest_same zero n m same = omega arith
rest_same (suc k) n m same =
    let first : byte_at k n ≡ byte_at k m = ap (λ (l : List ℕ). get_or l 0 0) same in
    let others = rest_same k n m (ap (drop 1) same) in
    split k n ∙ ap (λ (b : ℕ). b * 256 ^ k + n % 256 ^ k) first ∙ ap (λ (r : ℕ). byte_at k m * 256 ^ k + r) others ∙ sym (split k m)

-- ---- segments

segments_small : (bytes : List ℕ) → ((i : ℕ) → get_or bytes i 0 < 256) → AllSegments (segments_of bytes)
segments_small [] small i = omega arith
segments_small (a ∷ []) small i = omega arith
segments_small (a ∷ b ∷ bytes) small zero = let x : a < 256 = small 0 in let y : b < 256 = small 1 in omega arith
segments_small (a ∷ b ∷ bytes) small (suc i) = segments_small bytes (λ k. small (suc (suc k))) i

segments_long : (n : ℕ) (bytes : List ℕ) → length bytes ≡ 2 * n → length (segments_of bytes) ≡ n
segments_long n [] even = omega arith
segments_long n (a ∷ []) even = absurd (omega arith)
segments_long zero (a ∷ b ∷ bytes) even = absurd (omega arith)
segments_long (suc n) (a ∷ b ∷ bytes) even = ap suc (segments_long n bytes (omega arith))

segments_same : (n : ℕ) (xs ys : List ℕ) → length xs ≡ 2 * n → length ys ≡ 2 * n → ((i : ℕ) → get_or xs i 0 < 256) → ((i : ℕ) → get_or ys i 0 < 256) → segments_of xs ≡ segments_of ys → xs ≡ ys
segments_same zero [] [] a b h k same = refl
segments_same zero [] (y ∷ ys) a b h k same = absurd (omega arith)
segments_same zero (x ∷ xs) ys a b h k same = absurd (omega arith)
segments_same (suc n) [] ys a b h k same = absurd (omega arith)
segments_same (suc n) (x ∷ []) ys a b h k same = absurd (omega arith)
segments_same (suc n) (x ∷ x' ∷ xs) [] a b h k same = absurd (omega arith)
segments_same (suc n) (x ∷ x' ∷ xs) (y ∷ []) a b h k same = absurd (omega arith)
segments_same (suc n) (x ∷ x' ∷ xs) (y ∷ y' ∷ ys) a b h k same =
    let first : x * 256 + x' ≡ y * 256 + y' = ap (λ (l : List ℕ). get_or l 0 0) same in
    let others = segments_same n xs ys (omega arith) (omega arith) (λ i. h (suc (suc i))) (λ i. k (suc (suc i))) (ap (drop 1) same) in
    let p : x' < 256 = h 1 in
    let q : y' < 256 = k 1 in
    let high : x ≡ y = omega arith in
    let low : x' ≡ y' = omega arith in
    rw (high, low, others) refl

-- ---- texts

abbrev address_of : List ℕ → Ipv6Addr
address_of segments = record { segments = segments }

pub address_same : (a b : ℕ) → a < 2 ^ 128 → b < 2 ^ 128 → address_text a ≡ address_text b → a ≡ b
unfolding address_text
address_same a b h k same =
    let xs = to_be_bytes w128 a in
    let ys = to_be_bytes w128 b in
    let spelled = λ (n : ℕ). IsColonHex-ipv6_text (segments_of (to_be_bytes w128 n)) (segments_long 8 (to_be_bytes w128 n) (bytes_long 16 n)) (segments_small (to_be_bytes w128 n) (bytes_small 16 n)) in
    let one = IsIpv6Text_unique (ipv6_text (segments_of xs)) (address_of (segments_of xs)) (address_of (segments_of ys)) (spelled a) (subst (λ (t : List ℕ). IsIpv6Text t (address_of (segments_of ys))) (sym same) (spelled b)) in
    let segments : segments_of xs ≡ segments_of ys = ap (λ (v : Ipv6Addr). v.segments) one in
    let bytes = segments_same 8 xs ys (bytes_long 16 a) (bytes_long 16 b) (bytes_small 16 a) (bytes_small 16 b) segments in
    sym (mod-eq_of_lt h) ∙ rest_same 16 a b bytes ∙ mod-eq_of_lt k
