-- Where a text is cut, and how large a number in it can be.
use Rattle.std.proofs.Common.{◌≡◌, ℕ, ◌≤◌, true, false, eqb, List, [], ◌∷◌, ◌++◌, None, Some, refl, arith}
use Rattle.std.proofs.lemmas.Bool.Decides.{nat_tests}
use Rattle.line_text.specs.Lines.{has_byte}
use Rattle.line_text.specs.Numbers.{number_of}
use Rattle.line_text.proofs.LineLemmas.{has_byte-cons}
use Rattle.ds_domain_text.specs.Prefixes.{cut_at}

-- a text without the mark is not cut
pub cut_at-none : (mark : ℕ) (text : List ℕ) → has_byte mark text ≡ false → cut_at mark text ≡ None
unfolding cut_at
cut_at-none mark [] h = refl
cut_at-none mark (byte ∷ text) h =
    let parts = has_byte-cons mark byte text h in
    rw (parts.0, cut_at-none mark text parts.1) refl

-- a text is cut at the first mark
pub cut_at-first : (mark : ℕ) (front behind : List ℕ) → has_byte mark front ≡ false → cut_at mark (front ++ mark ∷ behind) ≡ Some (front, behind)
unfolding cut_at
cut_at-first mark [] behind h = let same : eqb mark mark ≡ true = grind (arith, nat_tests) in rw same refl
cut_at-first mark (byte ∷ front) behind h =
    let parts = has_byte-cons mark byte front h in
    rw (parts.0, cut_at-first mark front behind parts.1) refl

-- a number is at most the most that it may be
pub number_of-most : (most n : ℕ) (text : List ℕ) → number_of most text ≡ Some n → n ≤ most
unfolding number_of
number_of-most most n text h = grind (arith, nat_tests)
