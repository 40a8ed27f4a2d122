-- The first line of an input that comes a byte at a time.
use Rattle.std.proofs.Common.{◌≡◌, ◌≢◌, ℕ, ◌≤◌, ◌<◌, false, List, [], ◌∷◌, ◌++◌, length, refl, arith}
use Rattle.std.proofs.lemmas.Bool.Decides.{nat_tests}
use Rattle.line_text.specs.Lines.{has_byte}
use Rattle.line_text.proofs.LineLemmas.{has_byte-cons, has_byte-append}
use Rattle.dsedge_lines.specs.FirstLine.{first_line_of, after_first_line}

-- LF ends the line, and what stands behind it is left
pub first_line-cut : (line rest : List ℕ) → has_byte 10 line ≡ false → (first_line_of (line ++ 10 ∷ rest) ≡ line) × (after_first_line (line ++ 10 ∷ rest) ≡ rest)
unfolding first_line_of after_first_line
first_line-cut [] rest h = (refl, refl)
first_line-cut (byte ∷ line) rest h =
    let parts = has_byte-cons 10 byte line h in
    let later = first_line-cut line rest parts.1 in
    (rw (parts.0, later.0) refl, rw (parts.0, later.1) refl)

-- a text without LF is the line, and nothing is left
pub first_line-uncut : (line : List ℕ) → has_byte 10 line ≡ false → (first_line_of line ≡ line) × (after_first_line line ≡ [])
unfolding first_line_of after_first_line
first_line-uncut [] h = (refl, refl)
first_line-uncut (byte ∷ line) h =
    let parts = has_byte-cons 10 byte line h in
    let later = first_line-uncut line parts.1 in
    (rw (parts.0, later.0) refl, rw (parts.0, later.1) refl)

-- the line is no shorter than what came without LF
pub first_line_of-long : (front rest : List ℕ) → has_byte 10 front ≡ false → length front ≤ length (first_line_of (front ++ rest))
unfolding first_line_of
first_line_of-long [] rest h = omega arith
first_line_of-long (byte ∷ front) rest h =
    let parts = has_byte-cons 10 byte front h in
    rw parts.0 (omega (arith, first_line_of-long front rest parts.1))

-- the line goes on by a byte that is no LF
pub has_byte-push : (line : List ℕ) (byte : ℕ) → has_byte 10 line ≡ false → byte ≢ 10 → has_byte 10 (line ++ byte ∷ []) ≡ false
unfolding has_byte
has_byte-push line byte h other = has_byte-append 10 line (byte ∷ []) h (grind (arith, nat_tests))

-- so many turns make no more bytes
pub most_bytes : (size turn : ℕ) → size ≡ turn → turn < 65537 → size ≤ 65536
most_bytes size turn same h = omega arith

-- and all turns too many
pub too_many_bytes : (size turn whole : ℕ) → size ≡ turn → 65537 ≤ turn → size ≤ whole → 65536 < whole
too_many_bytes size turn whole same h bound = omega arith
