-- What becomes of a book as commands are asked of it, one after the other.
use Rattle.std.specs.Prelude.{◌≡◌, ◌⊎◌, ⊤, List, [], ◌∷◌, ◌++◌, fold, None}
use Rattle.ds_broker.specs.Books.{Book, standing, with_command}
use Rattle.ds_broker.specs.Histories.{after}
use Rattle.ds_broker.specs.Refusals.{refusal_in}
use Rattle.ds_broker.specs.declared.command.Command.{Command}

-- Each command is accepted, and then nothing stands against it, or it is refused, and then the book stays as it was.
unfoldable pub LeadsTo : Book → List Command → Book → Type 0
LeadsTo b [] end = end ≡ b
LeadsTo b (command ∷ asked) end =
    ((refusal_in b command ≡ None) × LeadsTo (with_command b command) asked end) ⊎ LeadsTo b asked end

-- commands that are some of others, in their order
unfoldable pub AreSomeOf : List Command → List Command → Type 0
AreSomeOf [] asked = ⊤
AreSomeOf (command ∷ commands) [] = ⊥
AreSomeOf (command ∷ commands) (other ∷ asked) =
    ((command ≡ other) × AreSomeOf commands asked) ⊎ AreSomeOf (command ∷ commands) asked

-- nothing stands against any of some commands when its turn comes
unfoldable pub AreUnrefused : Book → List Command → Type 0
AreUnrefused b [] = ⊤
AreUnrefused b (command ∷ commands) = (refusal_in b command ≡ None) × AreUnrefused (with_command b command) commands

-- the book is that of the accepted ones: they stand behind its history, and what stands in it is their fold
pub record IsFoldOfAccepted (b : Book) (asked : List Command) (end : Book) : Type 0 where
  pub accepted : List Command
  pub some : AreSomeOf accepted asked
  pub unrefused : AreUnrefused b accepted
  pub history : end ≡ record b { history = b.history ++ accepted }
  pub stands : standing end ≡ fold after (standing b) accepted
