-- Every contract that a broker's book ever granted, and for how long its share is reserved.
use Rattle.std.specs.Prelude.{ℕ, ◌+◌, ⊤, max, nat_eq, List, [], ◌∷◌, ◌++◌, length, map, fold, None, Some, if◌then◌else◌}
use Rattle.ds_domain_base.specs.Domains.{Domain}
use Rattle.ds_domain_base.specs.declared.contract.Contract.{Contract}
use Rattle.ds_certificate.specs.Bounds.{least_of}
use Rattle.ds_certificate.specs.Rates.{HasRates}
use Rattle.ds_timeline.specs.Timelines.{Timeline}
use Rattle.ds_timeline.specs.declared.reservation.Reservation.{Reservation}
use Rattle.ds_broker.specs.Books.{Book}
use Rattle.ds_broker.specs.Histories.{begun, ended}
use Rattle.ds_broker.specs.declared.command.Command.{Command}
use Rattle.ds_broker.specs.declared.command.Command.TheVariants.{Reserve, Release, Retire}

-- the greatest moment of some commands, and every contract that they granted, in order of admission
pub record Past : Type 0 where
  pub newest : ℕ
  pub granted : List Reservation

-- before the first command
abbrev pub no_past : Past
no_past = record { newest = 0; granted = [] }

-- a contract as it is granted: with its least bounds, and reserved from its beginning on
abbrev pub granted_as : Domain → ℕ → Contract → Reservation
granted_as d flow c =
    record { flow = flow; contract = c; bounds = least_of d c; from = c.lifetime.since; retirement = None }

-- the id of a contract is its flow and 1
abbrev pub id_of : Reservation → ℕ
id_of r = r.flow + 1

-- with the contract of an id changed
abbrev pub changed : ℕ → (Reservation → Reservation) → List Reservation → List Reservation
changed id change granted = map (λ r. if nat_eq id (id_of r) then change r else r) granted

-- a contract that ends at a moment at the latest
abbrev pub ending_by : ℕ → Reservation → Reservation
ending_by moment r = record r { contract = ended moment r.contract }

-- a contract that is retired at a moment
abbrev pub retired_at : ℕ → Reservation → Reservation
retired_at moment r = record r { retirement = Some moment }

-- one command more, at its moment, or at the newest one where that is later
abbrev pub past_after : Domain → Past → Command → Past
past_after d p (Reserve c) = record {
  newest = max p.newest c.lifetime.since;
  granted = p.granted ++ granted_as d (length p.granted) (begun p.newest c) ∷ [];
}
past_after d p (Release id at) = record {
  newest = max p.newest at;
  granted = changed id (ending_by (max p.newest at)) p.granted;
}
past_after d p (Retire id moment) = record {
  newest = max p.newest moment;
  granted = changed id (retired_at (max p.newest moment)) p.granted;
}

-- all commands in their order, from the first on
unfoldable pub past_of : Domain → List Command → Past
past_of d history = fold (past_after d) no_past history

-- the timeline behind some commands
abbrev pub timeline_behind : Domain → List Command → Timeline
timeline_behind d history = record { domain = d; reservations = (past_of d history).granted }

-- the timeline of a book: that of its history
abbrev pub timeline_of : Book → Timeline
timeline_of b = timeline_behind b.domain b.history

-- a contract that is reserved has a rate in each column
abbrev pub IsOfRates : Domain → Command → Type 0
IsOfRates d (Reserve c) = HasRates d c
IsOfRates d (Release id at) = ⊤
IsOfRates d (Retire id moment) = ⊤
