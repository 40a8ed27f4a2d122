-- How a text is cut into lines and fields: what a reader of a text in pieces needs.
use Rattle.std.proofs.Common.{◌≡◌, ◌≢◌, ℕ, ◌+◌, ◌<◌, ◌≤◌, suc, not, Bool, true, false, ◌||◌, eqb, cond, List, [], ◌∷◌, ◌++◌, length, get_or, take, drop, Option, None, Some, refl, sym, ap, ◌∙◌, arith}
use Rattle.std.specs.List.{onto_first, slice_split, position_or_len, before_first, after_first, position}
use Rattle.std.proofs.lemmas.Bool.{cond_above, cond_below, eqb-true, false_from_ne_true, not-false}
use Rattle.std.proofs.lemmas.List.Sums.{position_or_len_is, split_at_first, prefix_len_stops}
use Rattle.std.proofs.lemmas.Bool.Decides.{nat_tests}
use Rattle.memchr.specs.Find.{IsFirstByte, is_byte}
use Rattle.line_text.specs.Lines.{lines_of, fields_of, has_byte, fields_left}

-- where neither of two tests passes, each fails
or_false : (x y : Bool) → x || y ≡ false → (x ≡ false) × (y ≡ false)
or_false true y h = absurd cc
or_false false y h = (refl, h)

-- an empty text has no byte
pub has_byte-nil : (mark : ℕ) → has_byte mark [] ≡ false
unfolding has_byte
has_byte-nil mark = refl

-- what has no such byte has none at its front and none behind it
pub has_byte-cons : (mark byte : ℕ) (text : List ℕ) → has_byte mark (byte ∷ text) ≡ false → (eqb byte mark ≡ false) × (has_byte mark text ≡ false)
unfolding has_byte
has_byte-cons mark byte text h = or_false (eqb byte mark) (has_byte mark text) h

-- two texts without such a byte make one
pub has_byte-append : (mark : ℕ) (xs ys : List ℕ) → has_byte mark xs ≡ false → has_byte mark ys ≡ false → has_byte mark (xs ++ ys) ≡ false
unfolding has_byte
has_byte-append mark [] ys h k = k
has_byte-append mark (x ∷ xs) ys h k =
    let parts = has_byte-cons mark x xs h in
    rw parts.0 (has_byte-append mark xs ys parts.1 k)

-- LF ends the first line
pub lines_of-cut : (line rest : List ℕ) → has_byte 10 line ≡ false → lines_of (line ++ 10 ∷ rest) ≡ line ∷ lines_of rest
unfolding lines_of
lines_of-cut [] rest h = refl
lines_of-cut (byte ∷ line) rest h =
    let parts = has_byte-cons 10 byte line h in
    rw (parts.0, lines_of-cut line rest parts.1) refl

-- a text without LF is one line, where there is any text
pub lines_of-uncut : (byte : ℕ) (line : List ℕ) → has_byte 10 (byte ∷ line) ≡ false → lines_of (byte ∷ line) ≡ (byte ∷ line) ∷ []
unfolding lines_of
lines_of-uncut byte [] h =
    let parts = has_byte-cons 10 byte [] h in
    rw parts.0 refl
lines_of-uncut byte (next ∷ line) h =
    let parts = has_byte-cons 10 byte (next ∷ line) h in
    rw (parts.0, lines_of-uncut next line parts.1) refl

-- no text, no line
pub lines_of-nil : lines_of [] ≡ []
unfolding lines_of
lines_of-nil = refl

-- a space ends the first field
pub fields_of-cut : (field rest : List ℕ) → has_byte 32 field ≡ false → fields_of (field ++ 32 ∷ rest) ≡ field ∷ fields_of rest
unfolding fields_of
fields_of-cut [] rest h = refl
fields_of-cut (byte ∷ field) rest h =
    let parts = has_byte-cons 32 byte field h in
    rw (parts.0, fields_of-cut field rest parts.1) refl

-- a line without a space is one field
pub fields_of-uncut : (line : List ℕ) → has_byte 32 line ≡ false → fields_of line ≡ line ∷ []
unfolding fields_of
fields_of-uncut [] h = refl
fields_of-uncut (byte ∷ line) h =
    let parts = has_byte-cons 32 byte line h in
    rw (parts.0, fields_of-uncut line parts.1) refl

-- there is a field even in an empty line
pub fields_of-some : (line : List ℕ) → length (fields_of line) ≢ 0
unfolding fields_of
fields_of-some [] = omega arith
fields_of-some (byte ∷ line) =
    elim (eqb byte 32) as (λ test. length (cond test ([] ∷ fields_of line) (onto_first byte (fields_of line))) ≢ 0) [
      | true ↦ omega arith
      | false ↦ elim (fields_of line) as (λ parts. length (onto_first byte parts) ≢ 0) [ [] ↦ omega arith | part ∷ parts ↦ omega arith ]
    ]

-- where the first place of a byte is the end of the text, the text has none
pub has_byte-none : (mark : ℕ) (text : List ℕ) → length text ≤ position_or_len (λ byte. eqb byte mark) text → has_byte mark text ≡ false
unfolding has_byte
has_byte-none mark [] h = refl
has_byte-none mark (byte ∷ text) h =
    let P : Bool → Type 0 = λ test. suc (length text) ≤ cond (not test) (1 + position_or_len (λ byte. eqb byte mark) text) 0 → test || has_byte mark text ≡ false in
    elim (eqb byte mark) as P [
      | true ↦ λ k. absurd (omega (arith, k))
      | false ↦ λ k. has_byte-none mark text (omega (arith, k))
    ] h

-- no such byte stands before the first
pub has_byte-before : (mark : ℕ) (text : List ℕ) → has_byte mark (take (position_or_len (λ byte. eqb byte mark) text) text) ≡ false
unfolding has_byte
has_byte-before mark [] = refl
has_byte-before mark (byte ∷ text) =
    let more : 1 + position_or_len (λ byte. eqb byte mark) text ≡ suc (position_or_len (λ byte. eqb byte mark) text) = omega arith in
    let P : Bool → Type 0 = λ test. eqb byte mark ≡ test → has_byte mark (take (cond (not test) (1 + position_or_len (λ byte. eqb byte mark) text) 0) (byte ∷ text)) ≡ false in
    elim (eqb byte mark) as P [
      | true ↦ λ e. refl
      | false ↦ λ e. rw more (rw e (has_byte-before mark text))
    ] refl

-- what a search for the first place of a byte says of that place
position-some : (test : ℕ → Bool) (text : List ℕ) (place : ℕ) → position test text ≡ Some place → (position_or_len test text < length text) × (place ≡ position_or_len test text)
position-some test text place h = grind (arith, nat_tests)

-- and where it finds none
position-none : (test : ℕ → Bool) (text : List ℕ) → position test text ≡ None → length text ≤ position_or_len test text
position-none test text h = grind (arith, nat_tests)

-- the first place of a byte, as a search for it answers it
pub position-first : (mark : ℕ) (text : List ℕ) (found : Option ℕ) → IsFirstByte (is_byte mark) text found → found ≡ position (λ byte. eqb byte mark) text
position-first mark text None nowhere =
    let test : ℕ → Bool = λ byte. eqb byte mark in
    let end : position_or_len test text ≡ length text =
    position_or_len_is test text (length text) 0 (omega arith) (λ k below. false_from_ne_true (test (get_or text k 0)) (nowhere k (omega arith) below)) (λ below. absurd (omega (arith, below))) in
    cond_above (position_or_len test text) (length text) (Some (position_or_len test text)) None None (omega (arith, end)) refl
position-first mark text (Some place) first =
    let test : ℕ → Bool = λ byte. eqb byte mark in
    let within : place < length text = first.0.high in
    let at : position_or_len test text ≡ place =
    position_or_len_is test text place 0 (omega (arith, within)) (λ k below. false_from_ne_true (test (get_or text k 0)) (first.0.before k (omega arith) below)) (λ below. first.1) in
    ap Some (sym at) ∙ cond_below (position_or_len test text) (length text) (Some (position_or_len test text)) None (omega (arith, at, within))

-- a text in which a byte stands first at this place
pub cut_at_first : (mark : ℕ) (text : List ℕ) (place : ℕ) → position (λ byte. eqb byte mark) text ≡ Some place
    → (place < length text) × (has_byte mark (take place text) ≡ false) × (text ≡ take place text ++ mark ∷ drop (place + 1) text)
cut_at_first mark text place h =
    let test : ℕ → Bool = λ byte. eqb byte mark in
    let found = position-some test text place h in
    let is_mark : get_or text (position_or_len test text) 0 ≡ mark = eqb-true _ _ (not-false _ (prefix_len_stops (λ byte. not (test byte)) text 0 found.0)) in (
      omega (arith, found),
      rw found.1 (has_byte-before mark text),
      rw found.1 (split_at_first test text 0 found.0 ∙ ap (λ byte. before_first test text ++ byte ∷ after_first test text) is_mark),
    )

-- a text in which a byte stands nowhere
pub uncut : (mark : ℕ) (text : List ℕ) → position (λ byte. eqb byte mark) text ≡ None → has_byte mark text ≡ false
uncut mark text h = has_byte-none mark text (position-none (λ byte. eqb byte mark) text h)

-- a line of a field, a field and something left has not two fields
pub three_or_more : (line first second : List ℕ) (rest more : Option (List ℕ)) (later last : List ℕ) → fields_of line ≡ first ∷ fields_left rest → rest ≡ Some later
    → fields_of later ≡ second ∷ fields_left more → more ≡ Some last → length (fields_of line) ≢ 2
three_or_more line first second rest more later last e is_rest f is_more two =
    let some = fields_of-some last in
    let tail : fields_of later ≡ second ∷ fields_of last = f ∙ ap (λ left. second ∷ fields_left left) is_more in
    let whole : fields_of line ≡ first ∷ second ∷ fields_of last = e ∙ ap (λ left. first ∷ fields_left left) is_rest ∙ ap (λ left. first ∷ left) tail in
    let count : length (fields_of line) ≡ suc (suc (length (fields_of last))) = ap length whole in
    some (omega arith)

-- the fields of a line are std's parts of it
pub fields_of-slice_split : (line : List ℕ) → fields_of line ≡ slice_split (λ byte. eqb byte 32) line
unfolding fields_of
fields_of-slice_split [] = refl
fields_of-slice_split (byte ∷ line) = rw (fields_of-slice_split line) refl
