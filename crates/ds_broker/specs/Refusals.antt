-- Why a broker's book refuses a command, memory aside: the first that stands against it.
use Rattle.std.specs.Prelude.{◌≡◌, ◌⊎◌, ℕ, Bool, false, ◌+◌, ◌-◌, nat_lt, option_map, Option, None, Some, unwrap_or, if◌then◌else◌}
use Rattle.ds_domain_base.specs.Domains.{Domain}
use Rattle.ds_domain_base.specs.Faults.{fault_at}
use Rattle.ds_domain_base.specs.Fitting.{way_fault}
use Rattle.ds_domain_base.specs.declared.contract.Contract.{Contract}
use Rattle.ds_domain_base.specs.declared.fault.DomainFault.{DomainFault}
use Rattle.ds_domain_base.specs.declared.fault.Kind.TheVariants as kinds
use Rattle.ds_domain_base.specs.declared.fault.Section.TheVariants as sections
use Rattle.ds_domain_base.specs.declared.fault.Field.TheVariants as fields
use Rattle.ds_certificate.specs.Bounds.{least_of}
use Rattle.ds_checker.specs.Acceptance.{refusal_of}
use Rattle.ds_checker.specs.Holds.{hold_of}
use Rattle.ds_broker.specs.Books.{Book, held_of, holding_of, is_held, is_history_full, is_table_full, moment_in, table_of, with_command}
use Rattle.ds_broker.specs.Histories.{Holding}
use Rattle.ds_broker.specs.declared.command.Command.{Command}
use Rattle.ds_broker.specs.declared.command.Command.TheVariants.{Reserve, Release, Retire}
use Rattle.ds_broker.specs.declared.refusal.BrokerRefusal.{BrokerRefusal}
use Rattle.ds_broker.specs.declared.refusal.BrokerRefusal.TheVariants as refusals

-- whether a contract would end before it begins
abbrev pub ends_early : ℕ → Option ℕ → Bool
ends_early since None = false
ends_early since (Some until) = nat_lt until since

-- what is wrong with a contract that is to be reserved: its name is held, or its end is before its beginning, or its
-- way is not in the domain
abbrev pub contract_fault : Book → Contract → Option DomainFault
contract_fault b c =
    if is_held c.name (held_of b) then
    Some (fault_at kinds.Twice sections.Contract 0 fields.Name)
    else if ends_early (moment_in b c.lifetime.since) c.lifetime.until then
    Some (fault_at kinds.Range sections.Contract 0 fields.Until)
    else
    way_fault 0 b.domain c.port c.path

-- a fault, or else what comes behind it
abbrev pub fault_or : Option DomainFault → Option BrokerRefusal → Option BrokerRefusal
fault_or (Some fault) next = Some (refusals.Contract fault)
fault_or None next = next

-- What stands against a reserve. First what is wrong with the contract, then that the book holds, and accepted, as much
-- as it may.
abbrev pub room_refusal : Book → Contract → Option BrokerRefusal
room_refusal b c =
    fault_or (contract_fault b c)
    (if is_table_full b then
    Some refusals.TableFull
    else if is_history_full b then
    Some refusals.HistoryFull
    else
    None)

-- What stands against a reserve, or else what the checker refuses the larger table for.
abbrev pub refusal_or_checked : Option BrokerRefusal → Book → Contract → Option BrokerRefusal
refusal_or_checked (Some refusal) b c = Some refusal
refusal_or_checked None b c = option_map refusals.Checker (refusal_of (table_of (with_command b (Reserve c))))

abbrev pub reserve_refusal : Book → Contract → Option BrokerRefusal
reserve_refusal b c = refusal_or_checked (room_refusal b c) b c

-- what stands against a release: nothing is held under its id, or it is released already, or the history is full
abbrev pub release_refusal_at : Book → Option Holding → Option BrokerRefusal
release_refusal_at b None = Some refusals.UnknownId
release_refusal_at b (Some h) =
    if h.released then
    Some refusals.AlreadyReleased
    else if is_history_full b then
    Some refusals.HistoryFull
    else
    None

abbrev pub release_refusal : Book → ℕ → Option BrokerRefusal
release_refusal b id = release_refusal_at b (holding_of id (held_of b))

-- when the share of a contract is free for others: once its hold has passed behind its end
abbrev pub free_from : Domain → Contract → ℕ
free_from d c = unwrap_or c.lifetime.until 0 + hold_of d c (least_of d c)

-- what is left until a moment
abbrev pub hold_left : ℕ → ℕ → Option BrokerRefusal
hold_left moment end = if nat_lt moment end then Some (refusals.HoldLeft (end - moment)) else None

-- what stands against a retire: nothing is held under its id, or it is not released, or the history is full, or a part
-- of its hold is left
abbrev pub retire_refusal_at : Book → ℕ → Option Holding → Option BrokerRefusal
retire_refusal_at b moment None = Some refusals.UnknownId
retire_refusal_at b moment (Some h) =
    if h.released then
    if is_history_full b then
    Some refusals.HistoryFull
    else
    hold_left (moment_in b moment) (free_from b.domain h.contract)
    else
    Some refusals.NotReleased

abbrev pub retire_refusal : Book → ℕ → ℕ → Option BrokerRefusal
retire_refusal b id moment = retire_refusal_at b moment (holding_of id (held_of b))

-- what stands against a command
abbrev pub refusal_in : Book → Command → Option BrokerRefusal
refusal_in b (Reserve contract) = reserve_refusal b contract
refusal_in b (Release id at) = release_refusal b id
refusal_in b (Retire id moment) = retire_refusal b id moment

-- a refusal, where this stands against what was asked: just that, or want of memory where nothing does
abbrev pub IsRefusal : Option BrokerRefusal → BrokerRefusal → Type 0
IsRefusal standing refusal = ((refusal ≡ refusals.NoMemory) × (standing ≡ None)) ⊎ (standing ≡ Some refusal)
