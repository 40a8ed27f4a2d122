-- How far a history is kept, and what is found again of it.
use Rattle.std.proofs.Common.{◌≡◌, ◌≤◌, ◌<◌, ◌-◌, ◌⊎◌, ℕ, zero, suc, List, [], ◌∷◌, ◌++◌, Option, None, Some, Result, Ok, Err, OnErr, OnOk, length, take, drop, inl, inr, refl, sym, ap, subst, ◌∙◌, arith, append-nil, append_assoc}
use Rattle.std.proofs.Math.Seq.{take-length}
use Rattle.std.proofs.lemmas.List.{length-append, length-drop, length-take-le, take-append-drop, take-append-le}
use Rattle.ds_broker.specs.Books.{Book, with_command}
use Rattle.ds_broker.specs.Refusals.{refusal_in}
use Rattle.ds_broker.specs.declared.refusal.BrokerRefusal.{BrokerRefusal}
use Rattle.ds_ledger_base.specs.Lasting.{IsBehind}
use Rattle.ds_ledger_base.specs.Replays.{replay, replay_or}
use Rattle.ds_ledger_base.specs.declared.ledger.Ledger.{Ghosts}
use Rattle.ds_broker.specs.declared.command.Command.{Command}
use Rattle.dsedge_drive.specs.Kept.{IsBeginning, IsFold, IsFoundAgain, IsKept, Selling, emptied}
use Rattle.dsedge_drive.specs.Opened.{HasGrown}

take-nil : {X : Type 0} (n : ℕ) → ◌≡◌ {A = List X} (take n []) []
take-nil zero = refl
take-nil (suc n) = refl

-- what is kept, and what stands behind it up to a place, is all up to that place
pub take-further : {X : Type 0} (xs : List X) (kept end : ℕ) → kept ≤ end → take kept xs ++ take (end - kept) (drop kept xs) ≡ take end xs
take-further xs zero end le = let e : end - 0 ≡ end = omega arith in rw e refl
take-further [] (suc kept) zero le = absurd (omega (arith, le))
take-further [] (suc kept) (suc end) le = take-nil (suc end - suc kept)
take-further (x ∷ xs) (suc kept) zero le = absurd (omega (arith, le))
take-further (x ∷ xs) (suc kept) (suc end) le =
    let e : suc end - suc kept ≡ end - kept = omega arith in
    rw e (ap (λ t. x ∷ t) (take-further xs kept end (omega (arith, le))))

-- something stands there
pub some-taken : {X : Type 0} (xs : List X) (kept end : ℕ) → kept < end → end ≤ length xs → 0 < length (take (end - kept) (drop kept xs))
some-taken xs kept end some within =
    let long = length-take-le (end - kept) (drop kept xs) (omega (arith, length-drop kept xs, within)) in omega (arith, long, some)

module _ (end : Book) where
  replay-by : (b : Book) (command : Command) (commands : List Command) (against : Option BrokerRefusal)
      → (replay (with_command b command) commands ≡ Ok end → end ≡ record b { history = (b.history ++ command ∷ []) ++ commands })
      → replay_or b against (replay (with_command b command) commands) ≡ Ok end
      → end ≡ record b { history = b.history ++ command ∷ commands }
  replay-by b command commands None whole led =
      whole led ∙ ap (λ h. record b { history = h }) (append_assoc b.history (command ∷ []) commands)
  replay-by b command commands (Some refusal) whole led = absurd (let e = led in cc)

  -- the history of a book that was asked commands, none of which it refused, grew by them
  pub replay-whole : (b : Book) (commands : List Command) → replay b commands ≡ Ok end → end ≡ record b { history = b.history ++ commands }
  unfolding replay
  replay-whole b [] led = let e : b ≡ end = cc in sym e ∙ ap (λ h. record b { history = h }) (sym (append-nil b.history))
  replay-whole b (command ∷ commands) led =
      replay-by b command commands (refusal_in b command) (replay-whole (with_command b command) commands) led

  front-by : (b : Book) (command : Command) (first more : List Command) (against : Option BrokerRefusal)
      → (replay (with_command b command) (first ++ more) ≡ Ok end → replay (with_command b command) first ≡ Ok (record b { history = (b.history ++ command ∷ []) ++ first }))
      → replay_or b against (replay (with_command b command) (first ++ more)) ≡ Ok end
      → replay_or b against (replay (with_command b command) first) ≡ Ok (record b { history = b.history ++ command ∷ first })
  front-by b command first more None whole led =
      whole led ∙ ap (λ h. Ok (record b { history = h })) (append_assoc b.history (command ∷ []) first)
  front-by b command first more (Some refusal) whole led = absurd (let e = led in cc)

  -- where a book accepts commands, it accepts each beginning of them
  pub replay-front : (b : Book) (first more : List Command) → replay b (first ++ more) ≡ Ok end → replay b first ≡ Ok (record b { history = b.history ++ first })
  unfolding replay
  replay-front b [] more led = ap (λ h. Ok (record b { history = h })) (sym (append-nil b.history))
  replay-front b (command ∷ first) more led =
      front-by b command first more (refusal_in b command) (replay-front (with_command b command) first more) led

module _ (mid : Book) (more : List Command) where
  on-by : (b : Book) (command : Command) (first : List Command) (against : Option BrokerRefusal)
      → (replay (with_command b command) first ≡ Ok mid → replay (with_command b command) (first ++ more) ≡ replay mid more)
      → replay_or b against (replay (with_command b command) first) ≡ Ok mid
      → replay_or b against (replay (with_command b command) (first ++ more)) ≡ replay mid more
  on-by b command first None goes led = goes led
  on-by b command first (Some refusal) goes led = absurd (let e = led in cc)

  -- commands, and then others
  pub replay-on : (b : Book) (first : List Command) → replay b first ≡ Ok mid → replay b (first ++ more) ≡ replay mid more
  unfolding replay
  replay-on b [] led = let e : b ≡ mid = cc in ap (λ x. replay x more) e
  replay-on b (command ∷ first) led = on-by b command first (refusal_in b command) (replay-on (with_command b command) first) led

-- all that a book was asked that had no command before is its whole history
pub all-kept : (b end : Book) (commands : List Command) → b.history ≡ [] → replay b commands ≡ Ok end → end.history ≡ commands
all-kept b end commands none led = ap (λ (x : Book). x.history) (replay-whole end b commands led) ∙ ap (λ h. h ++ commands) none

-- and it is the fold of that
pub fold-kept : (b end : Book) (commands : List Command) → b.history ≡ [] → replay b commands ≡ Ok end → IsFold end
fold-kept b end commands none led =
    let same : emptied end ≡ b = ap emptied (replay-whole end b commands led) ∙ ap (λ h. record b { history = h }) (sym none) in
    ap (λ x. replay x end.history) same ∙ ap (replay b) (all-kept b end commands none led) ∙ led

-- a book that accepts a command, or stays as it was, has grown
pub grown_same : (old new : Book) → new ≡ old → HasGrown old new
unfolding replay
grown_same old new same = ([], ap Ok (sym same))

grown-by : (old new : Book) (command : Command) (against : Option BrokerRefusal) → against ≡ None → new ≡ with_command old command
    → replay_or old against (Ok (with_command old command)) ≡ Ok new
grown-by old new command None none accepted = ap Ok (sym accepted)
grown-by old new command (Some refusal) none accepted = absurd (let e = none in cc)

pub grown-one : (old new : Book) (command : Command) → refusal_in old command ≡ None → new ≡ with_command old command → HasGrown old new
unfolding replay
grown-one old new command none accepted = (command ∷ [], grown-by old new command (refusal_in old command) none accepted)

pub grown-done : {T : Type 0} (done : Result T BrokerRefusal) (old new : Book) (command : Command) → OnOk done (new ≡ with_command old command)
    → OnOk done (refusal_in old command ≡ None) → OnErr done (new ≡ old) → HasGrown old new
grown-done (Ok value) old new command accepted free same = grown-one old new command free accepted
grown-done (Err refusal) old new command accepted free same = grown_same old new same

begins-more : (kept : ℕ) (history more found : List Command) → IsBeginning kept history found → IsBeginning kept (history ++ more) found
begins-more kept history more found it = record {
  count = it.count;
  enough = it.enough;
  within = let size = length-append history more in omega (arith, it.within, size);
  found_is = it.found_is ∙ sym (take-append-le it.count history more it.within);
}

-- commands that come behind leave what is kept
pub kept_on : {L : Type 0} (g : Ghosts L) (ledger : L) (kept : ℕ) (old new : Book) → HasGrown old new → IsKept g ledger kept old.history → IsKept g ledger kept new.history
kept_on g ledger kept old new grown it =
    let more = grown.0 in
    let size = length-append old.history more in
    subst (IsKept g ledger kept) (sym (ap (λ (b : Book). b.history) (replay-whole new old more grown.1))) (record {
      within = omega (arith, it.within, size);
      keeps = λ told. subst (g.keeps ledger) (sym (take-append-le kept old.history more it.within)) (it.keeps told);
      recovers = it.recovers;
      again = λ honest found left. begins-more kept old.history more found (it.again honest found left);
    })

-- and the book is still the fold of its commands
pub fold_on : (old new : Book) → HasGrown old new → IsFold old → IsFold new
fold_on old new grown it =
    let more = grown.0 in
    let whole = replay-whole new old more grown.1 in
    ap (λ (b : Book). replay (emptied b) b.history) whole ∙ replay-on old more (emptied old) old.history it ∙ grown.1

-- what an open finds again
pub found_again : (s : Selling) (found : List Command) → IsFold s.book → IsBeginning s.kept s.book.history found → IsFoundAgain s found
found_again s found fold it =
    let history = s.book.history in
    let parts : replay (emptied s.book) (take it.count history ++ drop it.count history) ≡ Ok s.book = ap (replay (emptied s.book)) (take-append-drop it.count history) ∙ fold in
    let front = replay-front s.book (emptied s.book) (take it.count history) (drop it.count history) parts in
    record {
      beginning = it;
      fold = ap (replay (emptied s.book)) it.found_is ∙ front ∙ ap (λ h. Ok (record s.book { history = h })) (sym it.found_is);
    }

-- a ledger from which a book goes on that has these commands and no others
pub kept-first : {L : Type 0} (g : Ghosts L) (ledger : L) (kept : ℕ) (history commands : List Command) → history ≡ commands → kept ≡ length history
    → (g.tells ledger → g.keeps ledger commands) → (g.honest ledger → g.recovers ledger × ((found : List Command) → g.leaves ledger found → found ≡ commands))
    → IsKept g ledger kept history
kept-first g ledger kept history commands same long keeps lasting =
    let all : take kept history ≡ commands = ap (λ n. take n history) long ∙ take-length history ∙ same in
    record {
      within = omega (arith, long);
      keeps = λ told. subst (g.keeps ledger) (sym all) (keeps told);
      recovers = λ honest. (lasting honest).0;
      again = λ honest found left. record { count = kept; enough = omega arith; within = omega (arith, long); found_is = (lasting honest).1 found left ∙ sym all };
    }

-- a ledger that was looked for keeps what it kept
pub kept_located : {L : Type 0} (g : Ghosts L) (old new : L) (kept : ℕ) (history : List Command) → IsKept g old kept history
    → (g.tells new → g.tells old) → (g.honest new → g.honest old) → (g.tells new → (before : List Command) → g.keeps old before → g.keeps new before)
    → (g.honest new → (found : List Command) → g.leaves new found → g.leaves old found) → (g.honest new → g.recovers old → g.recovers new) → IsKept g new kept history
kept_located g old new kept history it told truthful unchanged crash recovers = record {
  within = it.within;
  keeps = λ tells. unchanged tells (take kept history) (it.keeps (told tells));
  recovers = λ honest. recovers honest (it.recovers (truthful honest));
  again = λ honest found left. it.again (truthful honest) found (crash honest found left);
}

-- A ledger was asked to keep the commands from those that it keeps up to a place: it answered that it does, or not.
module _ {L : Type 0} (g : Ghosts L) (old new : L) (kept end : ℕ) (history : List Command) (it : IsKept g old kept history) (some : kept < end) (within : end ≤ length history)
    (truthful : g.honest new → g.honest old) where
  abbrev commands : List Command
  commands = take (end - kept) (drop kept history)

  all : take kept history ++ commands ≡ take end history
  all = take-further history kept end (omega (arith, some))

  recovered : (g.honest new → g.recovers old → (g.tells old → (history : List Command) × g.keeps old history) → g.recovers new) → g.honest new → g.recovers new
  recovered crash honest = crash honest (it.recovers (truthful honest)) (λ told. (take kept history, it.keeps told))

  behind : (found : List Command) → g.tells old → IsBehind (g.keeps old) commands found → found ≡ take end history
  behind found told is = is (take kept history) (it.keeps told) ∙ all

  pub kept-more : (g.tells new → g.tells old) → (g.tells new → (before : List Command) → g.keeps old before → g.keeps new (before ++ commands))
      → (g.honest new → 0 < length commands → g.tells old × ((found : List Command) → g.leaves new found → IsBehind (g.keeps old) commands found))
      → (g.honest new → g.recovers old → (g.tells old → (history : List Command) × g.keeps old history) → g.recovers new)
      → 0 < length commands → IsKept g new end history
  kept-more told appended lasting crash any = record {
    within = within;
    keeps = λ tells. subst (g.keeps new) all (appended tells (take kept history) (it.keeps (told tells)));
    recovers = recovered crash;
    again = λ honest found left.
        let last = lasting honest any in
        record { count = end; enough = omega arith; within = within; found_is = behind found last.0 (last.1 found left) };
  }

  pub kept-same : (g.tells new → g.tells old) → (g.tells new → (before : List Command) → g.keeps old before → g.keeps new before)
      → (g.honest new → (found : List Command) → g.leaves new found → g.leaves old found ⊎ (g.tells old × IsBehind (g.keeps old) commands found))
      → (g.honest new → g.recovers old → (g.tells old → (history : List Command) × g.keeps old history) → g.recovers new)
      → IsKept g new kept history
  kept-same told unchanged left crash = record {
    within = it.within;
    keeps = λ tells. unchanged tells (take kept history) (it.keeps (told tells));
    recovers = recovered crash;
    again = λ honest found leaves. elim (left honest found leaves) [
      | inl before ↦ it.again (truthful honest) found before
      | inr now ↦ record { count = end; enough = omega (arith, some); within = within; found_is = behind found now.0 now.1 }
    ];
  }
