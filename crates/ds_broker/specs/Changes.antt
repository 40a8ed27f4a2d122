-- What an accepted command changes in the table of its book, and in the flows of its contracts.
use Rattle.std.specs.Prelude.{ℕ, ◌≡◌, ◌<◌, ◌^◌, ⊤, false, true, List, [], ◌∷◌, ◌++◌, length, None, remove}
use Rattle.ds_domain_base.specs.Routes.{route_of}
use Rattle.ds_checker.specs.Acceptance.{Table, refusal_of}
use Rattle.ds_checker.specs.Changes.{with_contract, with_lifetime, without_contract}
use Rattle.ds_broker.specs.Books.{Book, held_of, newest_of, table_of, with_command}
use Rattle.ds_broker.specs.Entries.{flows_of, next_serial}
use Rattle.ds_broker.specs.Found.{IsFound}
use Rattle.ds_broker.specs.Refusals.{refusal_in}
use Rattle.ds_broker.specs.declared.change.Change.{Change}
use Rattle.ds_broker.specs.declared.change.Step.{Step}
use Rattle.ds_broker.specs.declared.change.Step.TheVariants as steps
use Rattle.ds_broker.specs.declared.command.Command.{Command}
use Rattle.ds_broker.specs.declared.command.Command.TheVariants as commands

abbrev pub table_changed : Step → Table → Table
table_changed (steps.Reserve contract route row flow) t = with_contract t contract row
table_changed (steps.Release place lifetime) t = with_lifetime t place lifetime
table_changed (steps.Retire place) t = without_contract t place

abbrev pub flows_changed : Step → List ℕ → List ℕ
flows_changed (steps.Reserve contract route row flow) flows = flows ++ flow ∷ []
flows_changed (steps.Release place lifetime) flows = flows
flows_changed (steps.Retire place) flows = remove flows place

-- how many contracts more a step brings
abbrev pub more_by : Step → ℕ
more_by (steps.Reserve contract route row flow) = 1
more_by (steps.Release place lifetime) = 0
more_by (steps.Retire place) = 0

-- where the contract stands that a step ends or takes out
abbrev pub place_in : Step → ℕ
place_in (steps.Reserve contract route row flow) = 0
place_in (steps.Release place lifetime) = place
place_in (steps.Retire place) = place

-- a step can be taken: nothing stands against the contract that it adds, whose route it tells, or there is one at its place
abbrev pub Applies : Step → Table → List ℕ → Type 0
Applies (steps.Reserve contract route row flow) t flows =
    (refusal_of (with_contract t contract row) ≡ None) × (route ≡ route_of t.domain contract)
Applies (steps.Release place lifetime) t flows = place < length t.contracts
Applies (steps.Retire place) t flows = (place < length t.contracts) × (place < length flows)

-- a step leads from a table and its flows to others
pub record Leads (step : Step) (t : Table) (own : List ℕ) (next : Table) (behind : List ℕ) : Type 0 where
  pub applies : Applies step t own
  pub table : next ≡ table_changed step t
  pub flows : behind ≡ flows_changed step own

-- where the contract stands that a command is about: one that is to be released, and one that is released already
abbrev pub IsPlaced : Book → Command → ℕ → Type 0
IsPlaced b (commands.Reserve contract) place = ⊤
IsPlaced b (commands.Release id at) place = IsFound id (held_of b) place false
IsPlaced b (commands.Retire id moment) place = IsFound id (held_of b) place true

-- The change that a command makes in a book, against which nothing stands there: it leads from what the book holds to
-- what it holds with the command.
pub record IsChange (b : Book) (command : Command) (change : Change) : Type 0 where
  pub leads : Leads change.step (table_of b) (flows_of b)
      (table_of (with_command b command)) (flows_of (with_command b command))
  pub placed : IsPlaced b command (place_in change.step)
  pub serial : change.serial ≡ next_serial b
  pub newest : change.newest ≡ newest_of (with_command b command)
  pub unrefused : refusal_in b command ≡ None
  pub room : length b.history < 2 ^ 24
