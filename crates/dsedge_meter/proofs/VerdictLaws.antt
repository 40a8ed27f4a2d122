-- The answer of `envelope`, a line at a time.
use Rattle.std.proofs.Common.{◌≡◌, ℕ, ◌+◌, ◌<◌, ◌≤◌, suc, Bool, true, false, cond, ltb, option_and_then, List, [], ◌∷◌, length, Option, None, Some, arith, refl, sym, ap, subst, ◌∙◌, inl, inr}
use Rattle.std.specs.Prelude.{if◌then◌else◌}
use Rattle.std.specs.Option.{option_or}
use Rattle.std.proofs.lemmas.Bool.{cases_lt, cond_above, cond_below, lt-ltb, le-ltb}
use Rattle.envelope_core.specs.LeakyBucket.{Bucket, overflows, poured}
use Rattle.envelope_core.proofs.LeakyBuckets.{overflow_from-nil, overflow_from-over, overflow_from-within, overflows-above, overflows-within, poured-within}
use Rattle.dsedge_lines.specs.Answers.{Answer}
use Rattle.dsedge_lines.specs.declared.command.Ending.TheVariants.{BadLine}
use Rattle.dsedge_meter.specs.Arrivals.{sized_from, sized_in, sized_since}
use Rattle.serde_json.specs.Data.{depth}
use Rattle.serde_json.specs.Read.{max_depth}
use Rattle.serde_json.specs.Written.{has_float}
use Rattle.dsedge_meter.specs.Verdicts.{Testing, first_over, tested, verdict_behind, verdict_data, verdict_line_in, verdict_of, verdict_text_of, verdict_to}

-- an answer with no text, which ends at a bad line
abbrev pub bad_line : ℕ → Answer
bad_line number = record { text = []; ending = BadLine number }

sized_from-bad : (newest : ℕ) (line : List ℕ) (later : List (List ℕ)) → sized_since newest line ≡ None → sized_from newest (line ∷ later) ≡ []
unfolding sized_from
sized_from-bad newest line later e = rw e refl

sized_from-good : (newest : ℕ) (line : List ℕ) (later : List (List ℕ)) (item : ℕ × ℕ) → sized_since newest line ≡ Some item
    → sized_from newest (line ∷ later) ≡ item ∷ sized_from item.0 later
unfolding sized_from
sized_from-good newest line later item e = rw e refl

sized_from-nil : (newest : ℕ) → sized_from newest [] ≡ []
unfolding sized_from
sized_from-nil newest = refl

verdict_to-short : (t : Testing) (number lines : ℕ) (items : List (ℕ × ℕ)) → length items < lines
    → verdict_to t number lines items ≡ bad_line (number + length items)
unfolding verdict_to
verdict_to-short t number lines items short = rw (lt-ltb (length items) lines short) refl

verdict_to-all : (t : Testing) (number lines : ℕ) (items : List (ℕ × ℕ)) → lines ≤ length items
    → verdict_to t number lines items ≡ verdict_of t.in_json (first_over t.bucket t.over number items)
unfolding verdict_to
verdict_to-all t number lines items all = rw (le-ltb (length items) lines all) refl

-- a sized moment is over or it is not, and then it is in the bucket
over_by : (b : Bucket) (number : ℕ) (item : ℕ × ℕ) (items : List (ℕ × ℕ)) (over : Bool) → overflows b item ≡ over
    → first_over b None number (item ∷ items) ≡ first_over (poured b item) (if over then Some number else None) (number + 1) items
over_by b number item items true is =
    overflow_from-over b.curve.rate b.curve.burst b.level b.since number item items (overflows-above b item is)
over_by b number item items false is =
    subst (λ (after : Bucket). first_over b None number (item ∷ items) ≡ first_over after None (number + 1) items) (sym (poured-within b item is))
    (overflow_from-within b.curve.rate b.curve.burst b.level b.since number item items (overflows-within b item is))

-- the first line that is over, one line further
pub first_over-more : (b : Bucket) (over : Option ℕ) (number : ℕ) (item : ℕ × ℕ) (items : List (ℕ × ℕ))
    → first_over b over number (item ∷ items)
    ≡ first_over (poured b item) (option_or over (if overflows b item then Some number else None)) (number + 1) items
first_over-more b None number item items = over_by b number item items (overflows b item) refl
first_over-more b (Some line) number item items = refl

verdict_to-more : (t : Testing) (number lines : ℕ) (item : ℕ × ℕ) (items : List (ℕ × ℕ))
    → verdict_to t number (suc lines) (item ∷ items) ≡ verdict_to (tested t number item) (number + 1) lines items
verdict_to-more t number lines item items =
    elim (cases_lt (length items) lines) [
      | inl short ↦
          let place : number + suc (length items) ≡ number + 1 + length items = omega arith in
          verdict_to-short t number (suc lines) (item ∷ items) (omega arith)
          ∙ (ap (λ n. bad_line n) place ∙ sym (verdict_to-short (tested t number item) (number + 1) lines items short))
      | inr all ↦
          verdict_to-all t number (suc lines) (item ∷ items) (omega arith)
          ∙ (ap (λ over. verdict_of t.in_json over) (first_over-more t.bucket t.over number item items)
          ∙ sym (verdict_to-all (tested t number item) (number + 1) lines items all))
    ]

pub verdict_behind-bad : (t : Testing) (number : ℕ) (line : List ℕ) (later : List (List ℕ)) → sized_since t.bucket.since line ≡ None
    → verdict_behind t number (line ∷ later) ≡ bad_line number
verdict_behind-bad t number line later e =
    let here : number + 0 ≡ number = omega arith in
    rw (sized_from-bad t.bucket.since line later e)
    (verdict_to-short t number (suc (length later)) [] (omega arith) ∙ ap (λ n. bad_line n) here)

pub verdict_behind-good : (t : Testing) (number : ℕ) (line : List ℕ) (later : List (List ℕ)) (item : ℕ × ℕ)
    → sized_since t.bucket.since line ≡ Some item
    → verdict_behind t number (line ∷ later) ≡ verdict_behind (tested t number item) (number + 1) later
verdict_behind-good t number line later item e =
    rw (sized_from-good t.bucket.since line later item e) (verdict_to-more t number (length later) item (sized_from item.0 later))

-- at the end the first line that was over is all that counts
over_at_end : (b : Bucket) (over : Option ℕ) (number : ℕ) → first_over b over number [] ≡ over
over_at_end b None number = overflow_from-nil b.curve.rate b.curve.burst b.level b.since number
over_at_end b (Some line) number = refl

pub verdict_behind-end : (t : Testing) (number : ℕ) → verdict_behind t number [] ≡ verdict_of t.in_json t.over
verdict_behind-end t number =
    rw (sized_from-nil t.bucket.since)
    (verdict_to-all t number 0 [] (omega arith) ∙ ap (λ over. verdict_of t.in_json over) (over_at_end t.bucket t.over number))

-- a sized moment that is taken is not before the newest one
pub sized_since_not_before : (newest : ℕ) (line : List ℕ) (item : ℕ × ℕ) → sized_since newest line ≡ Some item → newest ≤ item.0
unfolding sized_since
sized_since_not_before newest line item e = not_before newest (sized_in line) item e
  where
    not_before : (newest : ℕ) (said : Option (ℕ × ℕ)) (item : ℕ × ℕ)
        → option_and_then (λ i. cond (ltb i.0 newest) None (Some i)) said ≡ Some item → newest ≤ item.0
    not_before newest None item e = absurd (cc)
    not_before newest (Some said) item e =
        elim (cases_lt said.0 newest) [
          | inl earlier ↦ let none : None ≡ Some item = cond_below said.0 newest None (Some said) earlier ∙ e in absurd (cc)
          | inr later ↦
              let some : Some said ≡ Some item = cond_above said.0 newest None (Some said) (Some said) later refl ∙ e in
              let same : said ≡ item = cc in
              rw (← same) later
        ]

-- the object of a verdict has no float, nests once, and makes the line
pub verdict_plain : (over : Option ℕ) → has_float (verdict_data over) ≡ false
verdict_plain None = refl
verdict_plain (Some line) = refl

pub verdict_shallow : (over : Option ℕ) → depth (verdict_data over) ≤ max_depth
verdict_shallow None = omega arith
verdict_shallow (Some line) = omega arith

pub verdict_made : (over : Option ℕ) → verdict_line_in (verdict_data over) ≡ verdict_text_of over
verdict_made None = refl
verdict_made (Some line) = refl
