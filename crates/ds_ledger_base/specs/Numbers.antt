-- Under which id a command is accepted.
use Rattle.std.specs.Prelude.{ℕ, ◌+◌, List}
use Rattle.ds_broker.specs.Histories.{standing_of}
use Rattle.ds_broker.specs.declared.command.Command.{Command}
use Rattle.ds_broker.specs.declared.command.Command.TheVariants.{Reserve, Release, Retire}

-- that of the contract that it grants behind these commands, or of the one that it names
abbrev pub id_for : List Command → Command → ℕ
id_for history (Reserve contract) = (standing_of history).granted + 1
id_for history (Release id at) = id
id_for history (Retire id moment) = id
