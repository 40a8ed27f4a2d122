-- What becomes of a book that is asked one command, and then others.
use Rattle.std.proofs.Common.{◌≡◌, ℕ, List, [], ◌∷◌, None, Some, Result, Ok, Err, refl, sym, ap, subst, ◌∙◌}
use Rattle.ds_broker.specs.Books.{Book, with_command}
use Rattle.ds_broker.specs.Entries.{next_serial}
use Rattle.ds_broker.specs.Refusals.{refusal_in}
use Rattle.ds_broker.specs.declared.command.Command.{Command}
use Rattle.ds_broker.specs.declared.refusal.BrokerRefusal.{BrokerRefusal}
use Rattle.ds_ledger_base.specs.Replays.{replay}

asked : (b : Book) (command : Command) (more : List Command) → refusal_in b command ≡ None → replay b (command ∷ more) ≡ replay (with_command b command) more
unfolding replay
asked b command more none = rw none refl

refused : (b : Book) (command : Command) (more : List Command) (refusal : BrokerRefusal) → refusal_in b command ≡ Some refusal
    → replay b (command ∷ more) ≡ Err (next_serial b, refusal)
unfolding replay
refused b command more refusal stands = rw stands refl

module _ (whole : Result Book (ℕ × BrokerRefusal)) (b : Book) (left more : List Command) (command : Command) (is : whole ≡ replay b left) (parts : left ≡ command ∷ more) where
  -- one that is accepted leaves those behind it
  pub replay-accepted : (next : Book) → refusal_in b command ≡ None → next ≡ with_command b command → whole ≡ replay next more
  replay-accepted next none same = is ∙ ap (replay b) parts ∙ asked b command more none ∙ ap (λ x. replay x more) (sym same)

  -- one that is refused ends it
  pub replay-refused : (serial : ℕ) (refusal : BrokerRefusal) → refusal_in b command ≡ Some refusal → serial ≡ next_serial b → whole ≡ Err (serial, refusal)
  replay-refused serial refusal stands numbered =
      is ∙ ap (replay b) parts ∙ refused b command more refusal stands ∙ ap (λ n. Err (n, refusal)) (sym numbered)

-- none are left
pub replay-end : (whole : Result Book (ℕ × BrokerRefusal)) (b : Book) (left : List Command) → whole ≡ replay b left → left ≡ [] → whole ≡ Ok b
unfolding replay
replay-end whole b left is none = is ∙ ap (replay b) none
