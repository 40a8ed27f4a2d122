-- What stands against a command, test by test.
use Rattle.std.proofs.Common.{◌≡◌, ◌≤◌, ℕ, Bool, true, false, Option, None, Some, refl, ap, ◌∙◌, arith, nat_lt, if◌then◌else◌, ltb-false}
use Rattle.ds_domain_base.specs.Faults.{fault_at}
use Rattle.ds_domain_base.specs.Fitting.{way_fault}
use Rattle.ds_domain_base.specs.Lifetimes.{IsInOrder}
use Rattle.ds_domain_base.specs.declared.contract.Contract.{Contract}
use Rattle.ds_domain_base.specs.declared.fault.DomainFault.{DomainFault}
use Rattle.ds_domain_base.specs.declared.fault.Kind.TheVariants as kinds
use Rattle.ds_domain_base.specs.declared.fault.Section.TheVariants as sections
use Rattle.ds_domain_base.specs.declared.fault.Field.TheVariants as fields
use Rattle.ds_broker.specs.Books.{Book, held_of, holding_of, is_held, is_history_full, is_table_full, moment_in}
use Rattle.ds_broker.specs.Found.{IsFound}
use Rattle.ds_broker.specs.Histories.{Holding}
use Rattle.ds_broker.specs.declared.command.Command.{Command}
use Rattle.ds_broker.specs.declared.command.Command.TheVariants.{Reserve, Release, Retire}
use Rattle.ds_broker.specs.declared.refusal.BrokerRefusal.{BrokerRefusal}
use Rattle.ds_broker.specs.Refusals.{contract_fault, ends_early, fault_or, free_from, hold_left, refusal_in, refusal_or_checked, release_refusal, release_refusal_at, reserve_refusal, retire_refusal, retire_refusal_at, room_refusal}
use Rattle.ds_broker.specs.declared.refusal.BrokerRefusal.TheVariants.{AlreadyReleased, Contract as Unfit, HistoryFull, NotReleased, TableFull}
use Rattle.std.proofs.lemmas.Option.{none-some}

pub fault-twice : (b : Book) (c : Contract) → is_held c.name (held_of b) ≡ true → contract_fault b c ≡ Some (fault_at kinds.Twice sections.Contract 0 fields.Name)
fault-twice b c held = rw held refl

pub fault-range : (b : Book) (c : Contract) → is_held c.name (held_of b) ≡ false → ends_early (moment_in b c.lifetime.since) c.lifetime.until ≡ true
    → contract_fault b c ≡ Some (fault_at kinds.Range sections.Contract 0 fields.Until)
fault-range b c new early = rw (new, early) refl

pub fault-way : (b : Book) (c : Contract) → is_held c.name (held_of b) ≡ false → ends_early (moment_in b c.lifetime.since) c.lifetime.until ≡ false
    → contract_fault b c ≡ way_fault 0 b.domain c.port c.path
fault-way b c new ordered = rw (new, ordered) refl

-- and nothing stands against it before the checker is asked where there is room
pub room-clear : (b : Book) (c : Contract) → contract_fault b c ≡ None → is_table_full b ≡ false → is_history_full b ≡ false → room_refusal b c ≡ None
room-clear b c good table history = rw (good, table, history) refl

-- what is wrong with a contract stands against its reserve
pub fault-refused : (b : Book) (c : Contract) (fault : DomainFault) → contract_fault b c ≡ Some fault → reserve_refusal b c ≡ Some (Unfit fault)
fault-refused b c fault is = rw is refl

-- where nothing stands against a contract, each test is passed
no_fault : (held early : Bool) (twice range : DomainFault) (way : Option DomainFault) → (if held then Some twice else if early then Some range else way) ≡ None
    → (held ≡ false) × (early ≡ false) × (way ≡ None)
no_fault true early twice range way none = cc
no_fault false true twice range way none = cc
no_fault false false twice range way none = (refl, refl, none)

no_refusal : (o : Option DomainFault) (full long : Bool) → fault_or o (if full then Some TableFull else if long then Some HistoryFull else None) ≡ None
    → (o ≡ None) × (full ≡ false) × (long ≡ false)
no_refusal (Some fault) full long none = cc
no_refusal None true long none = cc
no_refusal None false true none = cc
no_refusal None false false none = (refl, refl, refl)

pub record IsPassed (b : Book) (c : Contract) : Type 0 where
  pub new : is_held c.name (held_of b) ≡ false
  pub ordered : ends_early (moment_in b c.lifetime.since) c.lifetime.until ≡ false
  pub way : way_fault 0 b.domain c.port c.path ≡ None
  pub table : is_table_full b ≡ false
  pub history : is_history_full b ≡ false

pub passed : (b : Book) (c : Contract) → room_refusal b c ≡ None → IsPassed b c
passed b c none =
    let all = no_refusal (contract_fault b c) (is_table_full b) (is_history_full b) none in
    let fine = no_fault (is_held c.name (held_of b)) (ends_early (moment_in b c.lifetime.since) c.lifetime.until) (fault_at kinds.Twice sections.Contract 0 fields.Name)
    (fault_at kinds.Range sections.Contract 0 fields.Until) (way_fault 0 b.domain c.port c.path) all.0 in
    record { new = fine.0; ordered = fine.1; way = fine.2; table = all.1; history = all.2 }

-- where nothing stands against a reserve, nothing does before the checker is asked
pub roomy : (o : Option BrokerRefusal) (b : Book) (c : Contract) → refusal_or_checked o b c ≡ None → o ≡ None
roomy None b c none = refl
roomy (Some refusal) b c none = none

-- a contract that does not end early is in order
pub ordered : (since : ℕ) (until : Option ℕ) → ends_early since until ≡ false → IsInOrder since until
ordered since None is = λ last some. absurd (none-some last some)
ordered since (Some end) is = λ last some. let same : end ≡ last = cc in omega (arith, ltb-false end since is, same)

-- what is held under an id is released, or retired, where each test is passed
pub release-passed : (b : Book) (id place : ℕ) (released : Bool) → IsFound id (held_of b) place released → released ≡ false → is_history_full b ≡ false → release_refusal b id ≡ None
release-passed b id place released found not_yet full =
    let is : found.holding.released ≡ false = found.is_released ∙ not_yet in
    ap (release_refusal_at b) found.found ∙ rw (is, full) refl

pub retire-passed : (b : Book) (id moment place : ℕ) (released : Bool) → (found : IsFound id (held_of b) place released) → released ≡ true → is_history_full b ≡ false
    → free_from b.domain found.holding.contract ≤ moment_in b moment → retire_refusal b id moment ≡ None
retire-passed b id moment place released found done full free =
    let is : found.holding.released ≡ true = found.is_released ∙ done in
    let over : nat_lt (moment_in b moment) (free_from b.domain found.holding.contract) ≡ false = grind (arith, free) in
    ap (retire_refusal_at b moment) found.found ∙ rw (is, full) (rw over refl)

-- where nothing stands against a command, the history is not full
release-unfilled : (b : Book) (o : Option Holding) → release_refusal_at b o ≡ None → is_history_full b ≡ false
release-unfilled b None none = cc
release-unfilled b (Some h) none = unlisted h.released (is_history_full b) none
  where
    unlisted : (released full : Bool) → (if released then Some AlreadyReleased else if full then Some HistoryFull else None) ≡ None → full ≡ false
    unlisted true full none = cc
    unlisted false true none = cc
    unlisted false false none = refl

retire-unfilled : (b : Book) (moment : ℕ) (o : Option Holding) → retire_refusal_at b moment o ≡ None → is_history_full b ≡ false
retire-unfilled b moment None none = cc
retire-unfilled b moment (Some h) none = unlisted h.released (is_history_full b) (hold_left (moment_in b moment) (free_from b.domain h.contract)) none
  where
    unlisted : (released full : Bool) (left : Option BrokerRefusal) → (if released then if full then Some HistoryFull else left else Some NotReleased) ≡ None → full ≡ false
    unlisted false full left none = cc
    unlisted true true left none = cc
    unlisted true false left none = refl

pub unfilled : (b : Book) (command : Command) → refusal_in b command ≡ None → is_history_full b ≡ false
unfilled b (Reserve c) none = (passed b c (roomy (room_refusal b c) b c none)).history
unfilled b (Release id at) none = release-unfilled b (holding_of id (held_of b)) none
unfilled b (Retire id moment) none = retire-unfilled b moment (holding_of id (held_of b)) none
