-- A broker's book: the domain in which it grants contracts, how much it takes, and the commands that it accepted.
use Rattle.std.specs.Prelude.{ℕ, Bool, List, [], ◌∷◌, ◌++◌, length, map, max, find, nat_eq, nat_le, Option, bytes_eq}
use Rattle.std.specs.List.{list_any}
use Rattle.ds_domain_base.specs.Domains.{Domain}
use Rattle.ds_domain_base.specs.declared.contract.Contract.{Contract}
use Rattle.ds_certificate.specs.Bounds.{least, least_of}
use Rattle.ds_checker.specs.Acceptance.{Table}
use Rattle.ds_checker.specs.Changes.{with_contract}
use Rattle.ds_broker.specs.Histories.{Holding, Standing, beginning, standing_of}
use Rattle.ds_broker.specs.declared.command.Command.{Command}

-- how many contracts a book holds at most, and how many commands it accepts
pub record Limits : Type 0 where
  pub table : ℕ
  pub history : ℕ

pub record Book : Type 0 where
  pub domain : Domain
  pub limits : Limits
  pub history : List Command

-- the book with one accepted command more
abbrev pub with_command : Book → Command → Book
with_command b command = record b { history = b.history ++ command ∷ [] }

-- what stands in it
abbrev pub standing : Book → Standing
standing b = standing_of b.history

-- the greatest moment of its commands, and what it holds
abbrev pub newest_of : Book → ℕ
newest_of b = (standing b).newest

abbrev pub held_of : Book → List Holding
held_of b = (standing b).held

-- the contracts that are held, in order of admission
abbrev pub contracts_in : List Holding → List Contract
contracts_in held = map (λ h. h.contract) held

-- contracts that are held, with the least certificate of theirs
abbrev pub table_in : Domain → List Holding → Table
table_in d held =
    record { domain = d; contracts = contracts_in held; certificate = least d (contracts_in held) }

-- a table with one contract more that begins at a moment, and with its least bounds
abbrev pub table_with : ℕ → Contract → Table → Table
table_with since c t = with_contract t (beginning since c) (least_of t.domain (beginning since c))

-- the table of a book: what it holds, with the least certificate
abbrev pub table_of : Book → Table
table_of b = table_in b.domain (held_of b)

-- what is held under an id
abbrev pub holding_of : ℕ → List Holding → Option Holding
holding_of id held = find (λ h. nat_eq id h.id) held

-- whether a contract of a name is held
abbrev pub is_held : List ℕ → List Holding → Bool
is_held name held = list_any (λ h. bytes_eq name h.contract.name) held

-- the limits are reached
abbrev pub is_table_full : Book → Bool
is_table_full b = nat_le b.limits.table (length (held_of b))

abbrev pub is_history_full : Book → Bool
is_history_full b = nat_le b.limits.history (length b.history)

-- the moment at which a command takes effect that is given for a moment
abbrev pub moment_in : Book → ℕ → ℕ
moment_in b moment = max (newest_of b) moment
