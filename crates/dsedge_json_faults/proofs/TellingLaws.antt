-- What is told of a fault is its object, or that memory ran out.
use Rattle.std.proofs.Common.{◌≡◌, ℕ, List, ◌++◌, Result, MatchResult, codes, cond, is_ok, refl, take}
use Rattle.serde_json.proofs.OnLiterals.{serde_json_on_literals}
use Rattle.json_lines.specs.JsonLines.{line_of}
use Rattle.pcap_capture.specs.Counts.{next_count}
use Rattle.pcap_capture.specs.Fronts.{IsFrontOf}
use Rattle.dsedge_faults.specs.declared.fault.Fault.{Fault}
use Rattle.dsedge_faults.specs.declared.fault.Fault.TheVariants.{Memory}
use Rattle.dsedge_faults.proofs.FrontLemmas.{given_or_front, told_since}
use Rattle.dsedge_json_faults.specs.FaultObjects.{IsObjectOf, IsToldBy, fault_data}

pub memory_line : codes "{\"fault\":\"memory\"}\n" ≡ line_of (fault_data Memory)
unfolding serde_json_on_literals
memory_line = refl

-- a text that is told, to its end or a front of it, is that of a fault's object
pub told_object : {E : Type 0} (result : Result (Unit {0}) E) (fault : Fault) (before after text : List ℕ) → IsObjectOf fault text
    → MatchResult result (λ _. after ≡ before ++ text) (λ _. (given : ℕ) × (after ≡ before ++ take given text))
    → (text : List ℕ) × IsObjectOf fault text × MatchResult result (λ _. after ≡ before ++ text) (λ _. IsFrontOf before text after)
told_object result fault before after text is given = (text, is, given_or_front result before after text given)

-- what a call told that gave a text, or a front of it where it failed
pub told_by : {E : Type 0} (result : Result (Unit {0}) E) (is : List ℕ → Type 0) (before after : List ℕ) (failed now : ℕ)
    → ((text : List ℕ) × is text × MatchResult result (λ _. after ≡ before ++ text) (λ _. IsFrontOf before text after))
    → now ≡ cond (is_ok result) failed (next_count failed) → IsToldBy is before after failed now
told_by result is before after failed now told failures =
    (told.0, told.1, told_since result before after told.0 failed now told.2 failures)
