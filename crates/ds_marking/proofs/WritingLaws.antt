-- What is written of a text that grows.
use Rattle.std.proofs.Common.{◌≡◌, ℕ, List, [], ◌++◌, Result, Ok, Err, MatchResult, sym, ap, ◌∙◌, append_assoc, append-nil, subst, OnOk}
use Rattle.pcap_capture.proofs.FrontLaws.{IsFrontOf-first}
use Rattle.pcap_capture.specs.Fronts.{IsFrontOf}
use Rattle.ds_marking.specs.Writings.{IsWrittenTo}

grown : (head text more first left : List ℕ) → head ++ text ≡ first ++ left → head ++ (text ++ more) ≡ first ++ (left ++ more)
grown head text more first left whole = sym (append_assoc head text more) ∙ ap (λ it. it ++ more) whole ∙ append_assoc first left more

-- a text of which a front is written, and then a front of what is left of it and of what comes behind it
pub written_on : (head text more out left before middle after : List ℕ) → IsWrittenTo out before (head ++ text) middle → IsWrittenTo left middle (out ++ more) after
    → IsWrittenTo left before (head ++ (text ++ more)) after
written_on head text more out left before middle after so now = record {
  front = so.front ++ now.front;
  whole = grown head text more so.front out so.whole ∙ ap (λ it. so.front ++ it) now.whole ∙ sym (append_assoc so.front now.front left);
  written = now.written ∙ ap (λ it. it ++ now.front) so.written ∙ append_assoc before so.front now.front;
}

-- and where the device failed on the way
pub broken_on : (head text more out before middle after : List ℕ) → IsWrittenTo out before (head ++ text) middle → IsFrontOf middle (out ++ more) after
    → IsFrontOf before (head ++ (text ++ more)) after
broken_on head text more out before middle after so now = (
  so.front ++ now.0,
  now.1,
  grown head text more so.front out so.whole ∙ ap (λ it. so.front ++ it) now.2 ∙ sym (append_assoc so.front now.0 now.1),
  now.3 ∙ ap (λ it. it ++ now.0) so.written ∙ append_assoc before so.front now.0,
)

-- all that is left is written
pub written_out : (text out left before middle after : List ℕ) → IsWrittenTo out before text middle → after ≡ middle ++ out → left ≡ [] → IsWrittenTo left before text after
written_out text out left before middle after so now none = record {
  front = text;
  whole = sym (ap (λ it. text ++ it) none ∙ append-nil text);
  written = now ∙ ap (λ it. it ++ out) so.written ∙ append_assoc before so.front out ∙ ap (λ it. before ++ it) (sym so.whole);
}

pub broken_out : (text out before middle after : List ℕ) → IsWrittenTo out before text middle → IsFrontOf middle out after → IsFrontOf before text after
broken_out text out before middle after so now = (
  so.front ++ now.0,
  now.1,
  so.whole ∙ ap (λ it. so.front ++ it) now.2 ∙ sym (append_assoc so.front now.0 now.1),
  now.3 ∙ ap (λ it. it ++ now.0) so.written ∙ append_assoc before so.front now.0,
)

-- where nothing is left, the whole text is written
pub written_whole : (text left before after : List ℕ) → IsWrittenTo left before text after → left ≡ [] → after ≡ before ++ text
written_whole text left before after so none = so.written ∙ ap (λ it. before ++ it) (sym (so.whole ∙ ap (λ it. so.front ++ it) none ∙ append-nil so.front))

-- what is handed over, by whether the device took it
pub handed : {T E : Type 0} (P : List ℕ → Type 0) (result : Result T E) (head text out left before middle after : List ℕ) → P text → IsWrittenTo out before (head ++ text) middle
    → MatchResult result (λ _. after ≡ middle ++ out) (λ _. IsFrontOf middle out after) → OnOk result (left ≡ [])
    → MatchResult result (λ _. (shown : List ℕ) × P shown × IsWrittenTo left before (head ++ shown) after) (λ _. (shown : List ℕ) × P shown × IsFrontOf before (head ++ shown) after)
handed P (Ok value) head text out left before middle after is so now none = (text, is, written_out (head ++ text) out left before middle after so now none)
handed P (Err fault) head text out left before middle after is so now none = (text, is, broken_out (head ++ text) out before middle after so now)

-- at first what stands before the frames is collected
pub headed_out : (head out held : List ℕ) → out ≡ head → IsWrittenTo out held (head ++ []) held
headed_out head out held collected = record {
  front = [];
  whole = append-nil head ∙ sym collected;
  written = sym (append-nil held);
}

-- a text of which a front is written, and what comes behind it is collected
pub collected_on : (head text more out left before now : List ℕ) → IsWrittenTo out before (head ++ text) now → left ≡ out ++ more → IsWrittenTo left before (head ++ (text ++ more)) now
collected_on head text more out left before now so is = record {
  front = so.front;
  whole = grown head text more so.front out so.whole ∙ ap (λ it. so.front ++ it) (sym is);
  written = so.written;
}

-- a front of a text is one of a longer text
pub longer_front : (head text more before now : List ℕ) → IsFrontOf before (head ++ text) now → IsFrontOf before (head ++ (text ++ more)) now
longer_front head text more before now front =
    subst (λ it. IsFrontOf before it now) (append_assoc head text more) (IsFrontOf-first before now (head ++ text) more front)
