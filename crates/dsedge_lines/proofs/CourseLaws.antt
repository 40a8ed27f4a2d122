-- A command that stays on its courses, and what is handed over of them.
use Rattle.std.proofs.Common.{◌≡◌, ℕ, List, [], ◌++◌, take, drop, Option, Result, Ok, Err, MatchResult, refl, sym, ap, subst, ◌∙◌, append_assoc, append-nil, take-append-drop}
use Rattle.dsedge_lines.specs.Courses.{IsHandedOver, StaysOn}
use Rattle.dsedge_lines.proofs.AnswerLemmas.{held-append}

module _ {C : Type 0} (stands : C → List (List ℕ) → Option (List (List ℕ)) → List ℕ → C → Type 0) where
  -- a call behind another
  pub stays_then : (old mid new : C) (text between written : List ℕ) (left more later : Option (List (List ℕ)))
      → StaysOn stands old text left mid between more → StaysOn stands mid between more new written later → StaysOn stands old text left new written later
  stays_then old mid new text between written left more later first next start whole front it = next start whole front (first start whole front it)

  -- a call behind a text that was handed over
  pub stays_behind : (start old new : C) (whole : List (List ℕ)) (front text emptied written : List ℕ) (left later : Option (List (List ℕ)))
      → StaysOn stands old emptied left new written later → emptied ≡ [] → stands start whole left (front ++ text) old → stands start whole later (front ++ (text ++ written)) new
  stays_behind start old new whole front text emptied written left later next none it =
      let same : front ++ text ≡ (front ++ text) ++ emptied = sym (ap (λ e. (front ++ text) ++ e) none ∙ append-nil (front ++ text)) in
      subst (λ t. stands start whole later t new) (append_assoc front text written)
      (next start whole (front ++ text) (subst (λ t. stands start whole left t old) same it))

-- a text of which all is handed over, or a front
pub handed_over : {T E : Type 0} (Holds : List ℕ → Type 0) (result : Result T E) (first held last written out : List ℕ)
    → MatchResult result (λ _. last ≡ held ++ out) (λ _. (given : ℕ) × (last ≡ held ++ take given out)) → held ≡ first ++ written → Holds (written ++ out)
    → IsHandedOver Holds first last
handed_over Holds (Ok value) first held last written out given before holds = record {
  text = written ++ out;
  holds = holds;
  front = written ++ out;
  more = [];
  whole = sym (append-nil (written ++ out));
  given = held-append first held last written out before given;
}
handed_over Holds (Err fault) first held last written out given before holds = record {
  text = written ++ out;
  holds = holds;
  front = written ++ take given.0 out;
  more = drop given.0 out;
  whole = ap (λ t. written ++ t) (sym (take-append-drop given.0 out)) ∙ sym (append_assoc written (take given.0 out) (drop given.0 out));
  given = held-append first held last written (take given.0 out) before given.1;
}

-- nothing is handed over yet
pub none_handed : (Holds : List ℕ → Type 0) (held : List ℕ) → Holds [] → IsHandedOver Holds held held
none_handed Holds held holds = record { text = []; holds = holds; front = []; more = []; whole = refl; given = sym (append-nil held) }
