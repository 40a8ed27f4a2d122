-- What marking an IPv6 packet keeps.
use Rattle.std.proofs.Common.{◌≡◌, ◌≢◌, ℕ, ◌+◌, ◌-◌, ◌*◌, ◌/◌, ◌%◌, ◌<◌, ◌≤◌, min, zero, suc, List, [], ◌∷◌, length, length-drop, take, drop, slice_index, None, Some, Option, Ok, refl, ap, ◌∙◌, arith}
use Rattle.std.proofs.lemmas.List.{take_all, take_min}
use Rattle.std.proofs.lemmas.Bool.Decides.{nat_tests}
use Rattle.af_marker.specs.Ipv6Headers.{ipv6_fault_of, ipv6_fields_of, ipv6_header_of, ipv6_marked, ipv6_unless}
use Rattle.af_marker.specs.Ipv6Headers.{payload_length, upper_of}
use Rattle.af_marker.specs.declared.ipv4.HeaderFault.{HeaderFault}
use Rattle.af_marker.specs.declared.ipv6.Ipv6Header.{Ipv6Header}

passed_from : (fault : Option HeaderFault) (read h : Ipv6Header) → Ok h ≡ ipv6_unless fault read → fault ≡ None
passed_from None read h e = refl
passed_from (Some fault) read h e = cc

read_from : (fault : Option HeaderFault) (read h : Ipv6Header) → Ok h ≡ ipv6_unless fault read → h ≡ read
read_from None read h e = cc
read_from (Some fault) read h e = cc

-- a header that is answered passes all tests
pub passed : (bytes : List ℕ) (h : Ipv6Header) → Ok h ≡ ipv6_header_of bytes → ipv6_fault_of bytes ≡ None
unfolding ipv6_header_of
passed bytes h e = passed_from (ipv6_fault_of bytes) (ipv6_fields_of bytes) h e

-- and is what the bytes say
pub is_fields : (bytes : List ℕ) (h : Ipv6Header) → Ok h ≡ ipv6_header_of bytes → h ≡ ipv6_fields_of bytes
unfolding ipv6_header_of
is_fields bytes h e = read_from (ipv6_fault_of bytes) (ipv6_fields_of bytes) h e

-- a header that passes all tests is there
pub whole : (bytes : List ℕ) → ipv6_fault_of bytes ≡ None → 40 ≤ length bytes
unfolding ipv6_fault_of
whole bytes h = grind (arith, nat_tests)

kept_version : (d a : ℕ) → d < 64 → (16 * (a / 16) + d / 4) / 16 ≡ a / 16
kept_version d a fits = omega arith

code_point_put : (d a b : ℕ) → d < 64 → 4 * ((16 * (a / 16) + d / 4) % 16) + (64 * (d % 4) + b % 64) / 64 ≡ d
code_point_put d a b fits = omega arith

kept_behind : (d b : ℕ) → (64 * (d % 4) + b % 64) % 64 ≡ b % 64
kept_behind d b = omega arith

fault_kept : (d a b : ℕ) (rest : List ℕ) → d < 64 → ipv6_fault_of (ipv6_marked d (a ∷ (b ∷ rest))) ≡ ipv6_fault_of (a ∷ (b ∷ rest))
unfolding ipv6_fault_of ipv6_marked
fault_kept d a b rest fits = rw (kept_version d a fits) refl

fields_kept : (d a b : ℕ) (rest : List ℕ) → d < 64 → ipv6_fields_of (ipv6_marked d (a ∷ (b ∷ rest))) ≡ record (ipv6_fields_of (a ∷ (b ∷ rest))) { dscp = d }
unfolding ipv6_fields_of ipv6_marked
fields_kept d a b rest fits = rw (code_point_put d a b fits) refl

-- the header after a mark: as it was, with the code point
pub header_of_marked : (d : ℕ) (bytes : List ℕ) → d < 64 → ipv6_fault_of bytes ≡ None
    → ipv6_header_of (ipv6_marked d bytes) ≡ Ok (record (ipv6_fields_of bytes) { dscp = d })
unfolding ipv6_header_of
header_of_marked d [] fits passes = absurd (omega (arith, whole [] passes))
header_of_marked d (a ∷ []) fits passes = absurd (omega (arith, whole (a ∷ []) passes))
header_of_marked d (a ∷ (b ∷ rest)) fits passes =
    ap (λ f. ipv6_unless f (ipv6_fields_of (ipv6_marked d (a ∷ (b ∷ rest))))) (fault_kept d a b rest fits ∙ passes)
    ∙ ap Ok (fields_kept d a b rest fits)

-- no byte changes but the first two
pub marked_apart : (d k : ℕ) (bytes : List ℕ) → k ≢ 0 → k ≢ 1 → slice_index (ipv6_marked d bytes) k ≡ slice_index bytes k
unfolding ipv6_marked
marked_apart d k [] zeroth first = refl
marked_apart d zero (a ∷ []) zeroth first = absurd (zeroth refl)
marked_apart d (suc k) (a ∷ []) zeroth first = refl
marked_apart d zero (a ∷ (b ∷ rest)) zeroth first = absurd (zeroth refl)
marked_apart d (suc zero) (a ∷ (b ∷ rest)) zeroth first = absurd (first refl)
marked_apart d (suc (suc k)) (a ∷ (b ∷ rest)) zeroth first = refl

-- the version stays, and what stands behind the code point
pub version_kept : (d : ℕ) (bytes : List ℕ) → d < 64 → 2 ≤ length bytes → slice_index (ipv6_marked d bytes) 0 / 16 ≡ slice_index bytes 0 / 16
unfolding ipv6_marked
version_kept d [] fits long = absurd (omega (arith, long))
version_kept d (a ∷ []) fits long = absurd (omega (arith, long))
version_kept d (a ∷ (b ∷ rest)) fits long = kept_version d a fits

pub behind_kept : (d : ℕ) (bytes : List ℕ) → 2 ≤ length bytes → slice_index (ipv6_marked d bytes) 1 % 64 ≡ slice_index bytes 1 % 64
unfolding ipv6_marked
behind_kept d [] long = absurd (omega (arith, long))
behind_kept d (a ∷ []) long = absurd (omega (arith, long))
behind_kept d (a ∷ (b ∷ rest)) long = kept_behind d b

-- marking twice is marking once with the last code point
pub marked_twice : (d e : ℕ) (bytes : List ℕ) → d < 64 → 2 ≤ length bytes → ipv6_marked e (ipv6_marked d bytes) ≡ ipv6_marked e bytes
unfolding ipv6_marked
marked_twice d e [] fits long = absurd (omega (arith, long))
marked_twice d e (a ∷ []) fits long = absurd (omega (arith, long))
marked_twice d e (a ∷ (b ∷ rest)) fits long = rw (kept_version d a fits, kept_behind d b) refl

-- a packet has more bytes than its header
pub longer : (bytes : List ℕ) → ipv6_fault_of bytes ≡ None → 40 < (ipv6_fields_of bytes).total
unfolding ipv6_fault_of ipv6_fields_of
longer bytes h = grind (arith, nat_tests)

-- what stands behind the 40 bytes, cut where the payload ends or the bytes do
pub upper_within : (most : ℕ) (bytes : List ℕ) (count payload : ℕ) → count ≡ min payload (length bytes - 40) → payload ≡ payload_length bytes
    → upper_of most (slice_index bytes 6) (take count (take (length bytes - 40) (drop 40 bytes))) ≡ upper_of most (slice_index bytes 6) (take (payload_length bytes) (drop 40 bytes))
upper_within most bytes count payload counts is =
    let back = drop 40 bytes in
    let cut : count ≡ min payload (length back) = omega (arith, counts, length-drop 40 bytes) in
    ap (λ (l : List ℕ). upper_of most (slice_index bytes 6) (take count l)) (take_all (length bytes - 40) back (omega (arith, length-drop 40 bytes)))
    ∙ ap (λ n. upper_of most (slice_index bytes 6) (take n back)) cut
    ∙ ap (upper_of most (slice_index bytes 6)) (take_min payload back)
    ∙ ap (λ n. upper_of most (slice_index bytes 6) (take n back)) is
