-- What a broker's book answers: which contracts it holds, how much room it has, and what a command was accepted as.
use Rattle.std.specs.Prelude.{ℕ, ◌+◌, ◌-◌, List, [], ◌∷◌, length, map, option_map, Option}
use Rattle.ds_domain_base.specs.declared.contract.Contract.{Contract}
use Rattle.ds_broker.specs.Books.{Book, held_of, holding_of, moment_in, newest_of, standing}
use Rattle.ds_broker.specs.Histories.{Holding}
use Rattle.ds_broker.specs.declared.entry.Entry.{Entry}
use Rattle.ds_broker.specs.declared.entry.Grant.{Grant}
use Rattle.ds_broker.specs.declared.entry.Room.{Room}

-- what is told of a contract that is held
abbrev pub entry_of : Holding → Entry
entry_of h = record {
  id = h.id;
  name = h.contract.name;
  since = h.contract.lifetime.since;
  until = h.contract.lifetime.until;
}

-- in order of admission
abbrev pub entries_of : Book → List Entry
entries_of b = map entry_of (held_of b)

abbrev pub entry_in : Book → ℕ → Option Entry
entry_in b id = option_map entry_of (holding_of id (held_of b))

-- how many contracts, and how many commands, it still takes
abbrev pub room_of : Book → Room
room_of b = record {
  table = b.limits.table - length (held_of b);
  history = b.limits.history - length b.history;
}

-- the number of the next command that it accepts, from 1
abbrev pub next_serial : Book → ℕ
next_serial b = length b.history + 1

-- what a contract is granted as
abbrev pub grant_of : Book → Contract → Grant
grant_of b c = record {
  id = (standing b).granted + 1;
  serial = next_serial b;
  since = moment_in b c.lifetime.since;
}

-- the id that was given last, the number of the last command, and the greatest moment
abbrev pub last_grant_of : Book → Grant
last_grant_of b = record { id = (standing b).granted; serial = length b.history; since = newest_of b }

-- what is told of ids and contracts, pair by pair
unfoldable pub told_of : List ℕ → List Contract → List Entry
told_of (id ∷ ids) (c ∷ contracts) =
    record { id = id; name = c.name; since = c.lifetime.since; until = c.lifetime.until } ∷ told_of ids contracts
told_of ids contracts = []

-- the flows of what is held, each the id less 1, in order of admission
abbrev pub flows_of : Book → List ℕ
flows_of b = map (λ h. h.id - 1) (held_of b)
