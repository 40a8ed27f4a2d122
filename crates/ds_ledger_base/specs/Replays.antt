-- What becomes of a book that is asked the commands of a ledger, one after the other.
use Rattle.std.specs.Prelude.{ℕ, List, [], ◌∷◌, Option, None, Some, Result, Ok, Err}
use Rattle.ds_broker.specs.Books.{Book, with_command}
use Rattle.ds_broker.specs.Entries.{next_serial}
use Rattle.ds_broker.specs.Refusals.{refusal_in}
use Rattle.ds_broker.specs.declared.command.Command.{Command}
use Rattle.ds_broker.specs.declared.refusal.BrokerRefusal.{BrokerRefusal}

-- The commands behind one against which this stands are asked of the book with it, or it is told with its serial.
abbrev pub replay_or : Book → Option BrokerRefusal → Result Book (ℕ × BrokerRefusal) → Result Book (ℕ × BrokerRefusal)
replay_or b None later = later
replay_or b (Some refusal) later = Err (next_serial b, refusal)

unfoldable pub replay : Book → List Command → Result Book (ℕ × BrokerRefusal)
replay b [] = Ok b
replay b (command ∷ commands) = replay_or b (refusal_in b command) (replay (with_command b command) commands)
