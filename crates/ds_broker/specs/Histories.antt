-- The accepted commands of a broker's book, one after the other, and what stands in the book behind them.
use Rattle.std.specs.Prelude.{ℕ, ◌+◌, Bool, true, false, max, min, List, [], ◌∷◌, ◌++◌, fold, nat_eq, Option, None, Some, if◌then◌else◌}
use Rattle.ds_domain_base.specs.declared.contract.Contract.{Contract}
use Rattle.ds_broker.specs.declared.command.Command.{Command}
use Rattle.ds_broker.specs.declared.command.Command.TheVariants.{Reserve, Release, Retire}

-- a contract that was granted and is not retired: its id, what it is by now, and whether it is released
pub record Holding : Type 0 where
  pub id : ℕ
  pub contract : Contract
  pub released : Bool

-- how many contracts were granted, the greatest moment of the commands, and what is held, in order of admission
pub record Standing : Type 0 where
  pub granted : ℕ
  pub newest : ℕ
  pub held : List Holding

-- before the first command
abbrev pub opening : Standing
opening = record { granted = 0; newest = 0; held = [] }

-- a contract that begins at a moment
abbrev pub beginning : ℕ → Contract → Contract
beginning since c = record c { lifetime = record c.lifetime { since = since } }

-- a contract that begins at a moment at the earliest
abbrev pub begun : ℕ → Contract → Contract
begun moment c = beginning (max moment c.lifetime.since) c

-- an end at a moment, or an earlier one
abbrev pub end_by : ℕ → Option ℕ → ℕ
end_by moment None = moment
end_by moment (Some end) = min end moment

-- a contract that ends at a moment at the latest
abbrev pub ended : ℕ → Contract → Contract
ended moment c = record c { lifetime = record c.lifetime { until = Some (end_by moment c.lifetime.until) } }

-- what is held once the contract of an id is released at a moment: it ends there at the latest
unfoldable pub with_released : ℕ → ℕ → List Holding → List Holding
with_released id moment [] = []
with_released id moment (h ∷ held) =
    if nat_eq id h.id then
    record { id = h.id; contract = ended moment h.contract; released = true } ∷ held
    else
    h ∷ with_released id moment held

-- what is held once the contract of an id is retired: all others
unfoldable pub with_retired : ℕ → List Holding → List Holding
with_retired id [] = []
with_retired id (h ∷ held) = if nat_eq id h.id then held else h ∷ with_retired id held

-- A reserve adds its contract behind the others, under the next id. It begins at the newest moment at the earliest, and
-- where it begins later, that is the newest moment from then on.
abbrev pub reserved : Standing → Contract → Standing
reserved s c = record {
  granted = s.granted + 1;
  newest = max s.newest c.lifetime.since;
  held = s.held ++ record { id = s.granted + 1; contract = begun s.newest c; released = false } ∷ [];
}

-- A release ends the contract of its id at its moment, or at the newest one where that is later, and leaves an earlier
-- end.
abbrev pub released : Standing → ℕ → ℕ → Standing
released s id at =
    record s { newest = max s.newest at; held = with_released id (max s.newest at) s.held }

-- A retire takes the contract of its id out, at its moment, or at the newest one where that is later.
abbrev pub retired : Standing → ℕ → ℕ → Standing
retired s id moment = record s { newest = max s.newest moment; held = with_retired id s.held }

-- one command more
abbrev pub after : Standing → Command → Standing
after s (Reserve contract) = reserved s contract
after s (Release id at) = released s id at
after s (Retire id moment) = retired s id moment

-- all commands in their order, from the first on
unfoldable pub standing_of : List Command → Standing
standing_of history = fold after opening history
