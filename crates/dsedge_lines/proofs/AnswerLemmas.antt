-- An answer that is written a part at a time.
use Rattle.std.proofs.Common.{◌≡◌, ℕ, List, [], ◌++◌, take, drop, Bool, true, false, cond, Result, Ok, Err, MatchResult, OnErr, IfOk, ◌⊎◌, inl, inr, refl, subst, sym, ap, ◌∙◌, append_assoc, append-nil, take-append-drop}
use Rattle.pcap_capture.specs.Counts.{next_count}
use Rattle.dsedge_lines.specs.declared.command.Ending.{Ending}
use Rattle.dsedge_lines.specs.declared.fault.PumpFault.{PumpFault}
use Rattle.dsedge_lines.specs.declared.fault.PumpFault.TheVariants.{Read, Write, NoMemory}
use Rattle.dsedge_lines.specs.Answers.{Answer, behind, BeginsWith}
use Rattle.dsedge_lines.specs.Faults.{is_read_fault, is_write_fault}

-- behind two texts, one after the other
pub behind-append : (front back : List ℕ) (answer : Answer) → behind (front ++ back) answer ≡ behind front (behind back answer)
behind-append front back answer = ap (λ text. record { text = text; ending = answer.ending }) (append_assoc front back answer.text)

-- what was collected is handed over
pub behind-handed : (written out left : List ℕ) (answer all : Answer) → behind written (behind out answer) ≡ all → left ≡ [] → behind (written ++ out) (behind left answer) ≡ all
behind-handed written out left answer all e emptied = rw emptied (behind-append written out answer ∙ e)

-- an answer behind a text begins with it
pub BeginsWith-behind : (front : List ℕ) (answer all : Answer) → behind front answer ≡ all → BeginsWith all front
BeginsWith-behind front answer all e = record { more = answer.text; whole = ap (λ a. a.text) (sym e) }

-- a whole answer begins with its text
pub BeginsWith-whole : (text : List ℕ) (ending : Ending) (all : Answer) → record { text = text; ending = ending } ≡ all → BeginsWith all text
BeginsWith-whole text ending all e = record { more = []; whole = ap (λ a. a.text) (sym e) ∙ sym (append-nil text) }

-- a front of a front, behind what was written before
pub BeginsWith-given : (written out : List ℕ) (whole all : Answer) (given : ℕ) → BeginsWith whole out → behind written whole ≡ all → BeginsWith all (written ++ take given out)
BeginsWith-given written out whole all given begins e = record {
  more = drop given out ++ begins.more;
  whole =
      let joined = sym (append_assoc (take given out) (drop given out) begins.more) ∙ ap (λ text. text ++ begins.more) (take-append-drop given out) in
      ap (λ a. a.text) (sym e) ∙ ap (λ text. written ++ text) (begins.whole ∙ sym joined) ∙ sym (append_assoc written (take given out) (drop given out ++ begins.more));
}

-- what an outlet holds after a text and another
pub held-append : (first held last written more : List ℕ) → held ≡ first ++ written → last ≡ held ++ more → last ≡ first ++ (written ++ more)
held-append first held last written more h l = l ∙ ap (λ text. text ++ more) h ∙ append_assoc first written more

-- where a call that hands over what is left fails, a front of the answer is written
pub front-settled : (result : Result Ending PumpFault) (first held last written out : List ℕ) (whole all : Answer)
    → MatchResult result (λ _. last ≡ held ++ out) (λ _. (given : ℕ) × (last ≡ held ++ take given out)) → held ≡ first ++ written → BeginsWith whole out → behind written whole ≡ all
    → OnErr result ((front : List ℕ) × BeginsWith all front × (last ≡ first ++ front))
front-settled (Ok ending) first held last written out whole all m h begins e = tt
front-settled (Err fault) first held last written out whole all m h begins e =
    (written ++ take m.0 out, BeginsWith-given written out whole all m.0 begins e, held-append first held last written (take m.0 out) h m.1)

-- where it does not, and the answer ends behind what is left, the whole answer is written
pub whole-settled : (result : Result Ending PumpFault) (ending : Ending) (first held last written out : List ℕ) (whole all : Answer) → (is_write_fault result ≡ true) ⊎ (result ≡ Ok ending)
    → MatchResult result (λ _. last ≡ held ++ out) (λ _. (given : ℕ) × (last ≡ held ++ take given out)) → held ≡ first ++ written → record { text = out; ending = ending } ≡ whole
    → behind written whole ≡ all → IfOk result (λ told. (last ≡ first ++ all.text) × (told ≡ all.ending))
whole-settled (Ok told) ending first held last written out whole all (inl write) m h is e = absurd cc
whole-settled (Ok told) ending first held last written out whole all (inr same) m h is e =
    let own : told ≡ ending = cc in (
      held-append first held last written out h m ∙ ap (λ text. first ++ text) (ap (λ (a : Answer). written ++ a.text) is ∙ ap (λ (a : Answer). a.text) e),
      own ∙ ap (λ (a : Answer). a.ending) is ∙ ap (λ (a : Answer). a.ending) e,
    )
whole-settled (Err fault) ending first held last written out whole all why m h is e = tt

-- a fault is not answered as an ending
pub none-settled : (P : Ending → Type 0) (result : Result Ending PumpFault) (fault : PumpFault) → (is_write_fault result ≡ true) ⊎ (result ≡ Err fault) → IfOk result P
none-settled P (Ok told) fault (inl write) = absurd cc
none-settled P (Ok told) fault (inr same) = absurd cc
none-settled P (Err other) fault why = tt

-- nor is a read fault, where none was found
pub settled-unread : (result found : Result Ending PumpFault) → (is_write_fault result ≡ true) ⊎ (result ≡ found) → is_read_fault found ≡ false → is_read_fault result ≡ false
settled-unread (Ok told) found why unread = refl
settled-unread (Err Read) found (inl write) unread = absurd cc
settled-unread (Err Read) found (inr same) unread = ap (λ (r : Result Ending PumpFault). is_read_fault r) same ∙ unread
settled-unread (Err Write) found why unread = refl
settled-unread (Err NoMemory) found why unread = refl

-- a count that a test may have moved, from what it was before
pub settled-failures : (test : Bool) (new middle old : ℕ) → middle ≡ old → new ≡ cond test (next_count middle) middle → new ≡ cond test (next_count old) old
settled-failures test new middle old same e = subst (λ n. new ≡ cond test (next_count n) n) same e

-- where a test failed, the count stayed
pub stays-false : {test : Bool} (new old : ℕ) → test ≡ false → new ≡ old → new ≡ cond test (next_count old) old
stays-false {test} new old failed e = rw failed e
