-- What is answered as the carry and the lines go on.
use Rattle.std.proofs.Common.{◌≡◌, ◌≢◌, ℕ, false, List, [], ◌∷◌, ◌++◌, length, Option, None, Some, IfNone, refl, sym, ap, ◌∙◌, arith, append_assoc, append-nil}
use Rattle.line_text.specs.Lines.{lines_of, has_byte}
use Rattle.line_text.proofs.LineLemmas.{has_byte-append, has_byte-nil, lines_of-cut, lines_of-uncut, lines_of-nil}

-- LF ends a line that was carried over
pub lines_of-carried : (carry rest later : List ℕ) → has_byte 10 carry ≡ false → has_byte 10 rest ≡ false → lines_of (carry ++ (rest ++ 10 ∷ later)) ≡ (carry ++ rest) ∷ lines_of later
lines_of-carried carry rest later c r = ap lines_of (sym (append_assoc carry rest (10 ∷ later))) ∙ lines_of-cut (carry ++ rest) later (has_byte-append 10 carry rest c r)

-- the last line may lack its LF
pub lines_of-last : (carry : List ℕ) → has_byte 10 carry ≡ false → length carry ≢ 0 → lines_of (carry ++ []) ≡ lines_of (carry ++ ([] ++ 10 ∷ []))
lines_of-last [] c some = absurd (some refl)
lines_of-last (byte ∷ carry) c some = ap lines_of (append-nil (byte ∷ carry)) ∙ lines_of-uncut byte carry c ∙ sym (lines_of-cut (byte ∷ carry) [] c ∙ ap (λ lines. (byte ∷ carry) ∷ lines) lines_of-nil)

-- a list of length 0
pub nil-from_length : (xs : List ℕ) → length xs ≡ 0 → xs ≡ []
nil-from_length [] h = refl
nil-from_length (x ∷ xs) h = absurd (omega arith)

-- nothing carried over has no LF
pub none_carried : {X : Type 0} (ended : Option X) (carry : List ℕ) → IfNone ended (carry ≡ []) → IfNone ended (has_byte 10 carry ≡ false)
none_carried None carry nothing = rw nothing (has_byte-nil 10)
none_carried (Some ending) carry nothing = tt
