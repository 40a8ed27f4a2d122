-- What a ledger keeps once it took commands, and what is found again of them.
use Rattle.std.specs.Prelude.{◌≡◌, List, ◌++◌}
use Rattle.ds_broker.specs.declared.command.Command.{Command}

-- whatever commands were kept, they are kept with these behind them
abbrev pub KeepsMore : (List Command → Type 0) → (List Command → Type 0) → List Command → Type 0
KeepsMore before after commands = (history : List Command) → before history → after (history ++ commands)

-- whatever commands were kept are kept
abbrev pub KeepsSame : (List Command → Type 0) → (List Command → Type 0) → Type 0
KeepsSame before after = (history : List Command) → before history → after history

-- what is found are the commands that were kept, whatever they are, with these behind them
abbrev pub IsBehind : (List Command → Type 0) → List Command → List Command → Type 0
IsBehind keeps commands found = (history : List Command) → keeps history → found ≡ history ++ commands
