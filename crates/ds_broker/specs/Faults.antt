-- The numbers of refusals.
use Rattle.std.specs.Prelude.{ℕ}
use Rattle.ds_broker.specs.declared.refusal.BrokerRefusal.{BrokerRefusal}
use Rattle.ds_broker.specs.declared.refusal.BrokerRefusal.TheVariants as refusals

abbrev pub refusal_code : BrokerRefusal → ℕ
refusal_code (refusals.Contract fault) = 1
refusal_code refusals.TableFull = 2
refusal_code (refusals.Checker refusal) = 3
refusal_code refusals.UnknownId = 4
refusal_code refusals.AlreadyReleased = 5
refusal_code refusals.HistoryFull = 6
refusal_code refusals.NoMemory = 7
refusal_code refusals.NotReleased = 8
refusal_code (refusals.HoldLeft nanoseconds) = 9
