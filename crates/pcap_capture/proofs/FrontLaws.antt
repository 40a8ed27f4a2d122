-- Fronts of texts.
use Rattle.std.proofs.Common.{◌≡◌, ℕ, List, [], ◌++◌, take, drop, refl, sym, ap, ◌∙◌, append-nil, append_assoc, take-append-drop}
use Rattle.pcap_capture.specs.Fronts.{IsFrontOf}

-- what is given of a text is a front of it
pub IsFrontOf-given : (before text after : List ℕ) (given : ℕ) → after ≡ before ++ take given text → IsFrontOf before text after
IsFrontOf-given before text after given held = (take given text, drop given text, sym (take-append-drop given text), held)

-- nothing is a front of every text
pub IsFrontOf-none : (before text : List ℕ) → IsFrontOf before text before
IsFrontOf-none before text = ([], text, refl, sym (append-nil before))

-- a front of the first of two texts is one of both
pub IsFrontOf-first : (before after first second : List ℕ) → IsFrontOf before first after → IsFrontOf before (first ++ second) after
IsFrontOf-first before after first second f = (f.0, f.1 ++ second, ap (λ t. t ++ second) f.2 ∙ append_assoc f.0 f.1 second, f.3)

-- a front of the second, behind the whole of the first
pub IsFrontOf-second : (before middle after first second : List ℕ) → middle ≡ before ++ first → IsFrontOf middle second after → IsFrontOf before (first ++ second) after
IsFrontOf-second before middle after first second e f =
    (first ++ f.0, f.1, ap (λ t. first ++ t) f.2 ∙ sym (append_assoc first f.0 f.1), f.3 ∙ (ap (λ t. t ++ f.0) e ∙ append_assoc before first f.0))
