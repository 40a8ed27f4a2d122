-- The answer of `drive`, a line at a time.
use Rattle.std.proofs.Common.{◌≡◌, ℕ, ◌+◌, List, ◌∷◌, [], ◌++◌, Option, None, Some, Result, is_some, option_map, unwrap_or, true, false, refl, sym, ap, subst, ◌∙◌, append-nil, append_assoc, length}
use Rattle.line_text.specs.Lines.{has_byte, lines_of}
use Rattle.line_text.proofs.LineLemmas.{lines_of-cut, lines_of-nil}
use Rattle.dsedge_lines.specs.Answers.{Answer, AnswersAll, GoesOn, behind}
use Rattle.dsedge_lines.specs.declared.command.Ending.{Ending}
use Rattle.dsedge_lines.specs.declared.command.Ending.TheVariants.{BadLine, Whole}
use Rattle.dsedge_lines.proofs.AnswerLemmas.{behind-append}
use Rattle.dsedge_drive.specs.Driven.{Reply, drive_from, replied, stopped}
use Rattle.dsedge_drive.specs.Kept.{Selling, with_reply}
use Rattle.dsedge_drive.specs.Opened.{answer_behind}

-- a line that is answered: its answer is held back behind what was held back
pub replied_line : (s mid : Selling) (number : ℕ) (line : List ℕ) (later : List (List ℕ)) → is_some (replied s.in_json s.offered s.book line) ≡ true
    → mid ≡ with_reply s (replied s.in_json s.offered s.book line)
    → answer_behind mid (number + 1) later ≡ answer_behind s number (line ∷ later)
unfolding drive_from
replied_line s mid number line later known is = rw is (by (replied s.in_json s.offered s.book line) known)
  where
    by : (r : Option Reply) → is_some r ≡ true
        → answer_behind (with_reply s r) (number + 1) later
        ≡ behind s.unsaid (unwrap_or (option_map (λ (r : Reply). behind r.text (drive_from s.in_json r.offered r.book (number + 1) later)) r) (stopped number))
    by (Some r) h = behind-append s.unsaid r.text (drive_from s.in_json r.offered r.book (number + 1) later)
    by None h = absurd cc

-- a line that asks for nothing changes nothing, and ends the answer
unknown_line : (s : Selling) (number : ℕ) (line : List ℕ) (later : List (List ℕ)) → is_some (replied s.in_json s.offered s.book line) ≡ false
    → (with_reply s (replied s.in_json s.offered s.book line) ≡ s) × (answer_behind s number (line ∷ later) ≡ behind s.unsaid (stopped number))
unfolding drive_from
unknown_line s number line later unknown = by (replied s.in_json s.offered s.book line) unknown
  where
    by : (r : Option Reply) → is_some r ≡ false
        → (with_reply s r ≡ s)
        × (behind s.unsaid (unwrap_or (option_map (λ (r : Reply). behind r.text (drive_from s.in_json r.offered r.book (number + 1) later)) r) (stopped number))
        ≡ behind s.unsaid (stopped number))
    by (Some r) h = absurd cc
    by None h = (refl, refl)

-- one that is given out, with what was held back
pub given_line : (s mid new : Selling) (number : ℕ) (line : List ℕ) (later : List (List ℕ)) (out written : List ℕ) → is_some (replied s.in_json s.offered s.book line) ≡ true
    → mid ≡ with_reply s (replied s.in_json s.offered s.book line) → written ≡ out ++ mid.unsaid → new ≡ record mid { unsaid = []; kept = length mid.book.history }
    → behind written (answer_behind new (number + 1) later) ≡ behind out (answer_behind s number (line ∷ later))
given_line s mid new number line later out written known is text given =
    rw (text, given) (behind-append out mid.unsaid (drive_from mid.in_json mid.offered mid.book (number + 1) later) ∙ ap (behind out) (replied_line s mid number line later known is))

-- one that is held back
pub held_line : (s mid : Selling) (number : ℕ) (line : List ℕ) (later : List (List ℕ)) (out written : List ℕ) → is_some (replied s.in_json s.offered s.book line) ≡ true
    → mid ≡ with_reply s (replied s.in_json s.offered s.book line) → written ≡ out
    → behind written (answer_behind mid (number + 1) later) ≡ behind out (answer_behind s number (line ∷ later))
held_line s mid number line later out written known is same = rw same (ap (behind out) (replied_line s mid number line later known is))

-- a line that asks for nothing, behind what was held back
pub given_bad_line : (s mid : Selling) (number : ℕ) (line : List ℕ) (later : List (List ℕ)) (out written : List ℕ) → is_some (replied s.in_json s.offered s.book line) ≡ false
    → mid ≡ with_reply s (replied s.in_json s.offered s.book line) → written ≡ out ++ mid.unsaid
    → ◌≡◌ {A = Answer} (record { text = written; ending = BadLine number }) (behind out (answer_behind s number (line ∷ later)))
given_bad_line s mid number line later out written unknown is text =
    let bad = unknown_line s number line later unknown in
    let same : mid ≡ s = is ∙ bad.0 in
    let whole : written ≡ out ++ (s.unsaid ++ []) = text ∙ ap (λ (m : Selling). out ++ m.unsaid) same ∙ ap (λ u. out ++ u) (sym (append-nil s.unsaid)) in
    ap (λ t. record { text = t; ending = BadLine number }) whole ∙ sym (ap (behind out) bad.1)

-- the end, behind what was held back
pub given_last_line : (s : Selling) (number : ℕ) (out written : List ℕ) → written ≡ out ++ s.unsaid
    → ◌≡◌ {A = Answer} (record { text = written; ending = Whole }) (behind out (answer_behind s number []))
unfolding drive_from
given_last_line s number out written text = rw text (rw (append-nil s.unsaid) refl)

-- the lines of a text that begins with one
pub first_line : (text line rest later : List ℕ) → has_byte 10 line ≡ false → text ≡ line ++ 10 ∷ rest → lines_of (text ++ later) ≡ line ∷ lines_of (rest ++ later)
first_line text line rest later whole is =
    ap (λ t. lines_of (t ++ later)) is ∙ ap lines_of (append_assoc line (10 ∷ rest) later) ∙ lines_of-cut line (rest ++ later) whole

-- what goes on before a text that is empty goes on
pub goes_on_alone : (whole on : List ℕ → Answer) (text rest out : List ℕ) (ended : Option Ending) → GoesOn (whole (text ++ [])) (on (rest ++ [])) out ended
    → GoesOn (whole text) (on rest) out ended
goes_on_alone whole on text rest out ended it =
    subst (λ t. GoesOn (whole t) (on rest) out ended) (append-nil text) (subst (λ r. GoesOn (whole (text ++ [])) (on r) out ended) (append-nil rest) it)

-- the first line of a text, where what is answered to all of it goes on
pub first_alone : (whole on : List (List ℕ) → Answer) (text line rest : List ℕ) → lines_of text ≡ line ∷ lines_of rest → on (lines_of (text ++ [])) ≡ whole (lines_of (text ++ []))
    → on (line ∷ lines_of rest) ≡ whole (lines_of text)
first_alone whole on text line rest first same = ap on (sym first) ∙ subst (λ t. on (lines_of t) ≡ whole (lines_of t)) (append-nil text) same

-- what is answered at the end, behind all lines of a text, is what was answered to all of them
pub answered_whole : {E : Type 0} (whole mid on : List (List ℕ) → Answer) (front : List ℕ → Answer) (unsaid rest : List ℕ) (lines : List (List ℕ)) (written : List ℕ) (result : Result Ending E)
    → rest ≡ [] → on (lines_of rest) ≡ mid (lines_of rest) → mid (lines_of rest) ≡ whole lines → whole lines ≡ front unsaid → unsaid ≡ []
    → AnswersAll (on []) written result → AnswersAll (front []) written result
answered_whole whole mid on front unsaid rest lines written result none same was begins said it =
    let last : on [] ≡ on (lines_of rest) = ap on (sym (ap lines_of none ∙ lines_of-nil)) in
    subst (λ all. AnswersAll all written result) (last ∙ same ∙ was ∙ begins ∙ ap front said) it
