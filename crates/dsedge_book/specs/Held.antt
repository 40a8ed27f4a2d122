-- What is told of a book that a ledger keeps.
use Rattle.std.specs.Prelude.{◌≡◌, ◌≢◌, ◌⊎◌, ℕ, ◌^◌, true, List, length, nat_lt, Result, Ok, Err}
use Rattle.ds_broker.specs.Books.{Book, Limits, contracts_in, held_of}
use Rattle.ds_broker.specs.Entries.{entries_of}
use Rattle.ds_broker.specs.declared.command.Command.{Command}
use Rattle.ds_broker.specs.declared.refusal.BrokerRefusal.{BrokerRefusal}
use Rattle.ds_domain.specs.DomainTexts.{parse_of}
use Rattle.ds_domain_base.specs.Domains.{Domain}
use Rattle.ds_domain_base.specs.Faults.{fault_at}
use Rattle.ds_domain_base.specs.declared.contract.Contract.{Contract}
use Rattle.ds_domain_base.specs.declared.fault.DomainFault.{DomainFault}
use Rattle.ds_domain_base.specs.declared.fault.Field.TheVariants as fields
use Rattle.ds_domain_base.specs.declared.fault.Kind.TheVariants as kinds
use Rattle.ds_domain_base.specs.declared.fault.Section.TheVariants as sections
use Rattle.ds_ledger_base.specs.Replays.{replay}
use Rattle.ds_ledger_base.specs.declared.fault.BookFault.TheVariants as books
use Rattle.ds_ledger_base.specs.declared.fault.LedgerFault.{LedgerFault}
use Rattle.ds_ledger_base.specs.declared.fault.LedgerFault.TheVariants as ledgers
use Rattle.dsedge_drive.specs.Driven.{opening_book}
use Rattle.dsedge_sold.specs.Sold.{list_text}
use Rattle.dsedge_book.specs.declared.fault.HeldFault.{HeldFault}
use Rattle.dsedge_book.specs.declared.fault.HeldFault.TheVariants as faults
use Rattle.dsedge_book.specs.declared.held.HeldForm.{HeldForm}
use Rattle.dsedge_book.specs.declared.held.HeldForm.TheVariants as forms

-- how much a book takes that is looked at: as much as any may
abbrev pub roomy : Limits
roomy = record { table = 65536; history = 2 ^ 24 }

-- the domain of a text, whatever its contracts are
abbrev pub domain_in : Result (Domain × List Contract) DomainFault → Result Domain DomainFault
domain_in (Ok parsed) = Ok parsed.0
domain_in (Err fault) = Err fault

-- A text says what a book holds: by the lines of its list; or it is a domain text, of the book's domain with the
-- contracts that are held.
abbrev pub Says : HeldForm → Book → List ℕ → Type 0
Says forms.List b text = text ≡ list_text (entries_of b)
Says forms.Domain b text = parse_of text ≡ Ok (b.domain, contracts_in (held_of b))

-- a ledger that stands so keeps a history, of which a domain makes this book, or refuses this command
pub record IsReplayed (stands : Result (List Command) LedgerFault → Type 0) (d : Domain) (found : Result Book (ℕ × BrokerRefusal)) : Type 0 where
  pub history : List Command
  pub stood : stands (Ok history)
  pub replayed : replay (opening_book d roomy) history ≡ found

-- a text says what the book holds that a domain makes of a ledger's history
abbrev pub IsHeldText : (Result (List Command) LedgerFault → Type 0) → Result Domain DomainFault → HeldForm → List ℕ → Type 0
IsHeldText stands (Ok d) form text = (b : Book) × IsReplayed stands d (Ok b) × Says form b text
IsHeldText stands (Err fault) form text = ⊥

-- No text says what a book holds: no domain text was asked for, or it has this fault; more than 4,096 contracts are one
-- too many. Memory may run out.
abbrev pub IsUnsaid : HeldForm → Book → HeldFault → Type 0
IsUnsaid form b (faults.Text fault) = (form ≡ forms.Domain)
    × (nat_lt 4096 (length (contracts_in (held_of b))) ≡ true → fault ≡ fault_at kinds.Range sections.Top 0 fields.Contract)
IsUnsaid form b faults.NoMemory = Unit {0}
IsUnsaid form b _ = ⊥

-- a history's first command is told that a book refuses; memory may run out
abbrev pub IsRefused : Result Book (ℕ × BrokerRefusal) → HeldFault → Type 0
IsRefused found (faults.Book (books.Command refused)) = found ≡ Err (refused.serial, refused.refusal)
IsRefused found faults.NoMemory = Unit {0}
IsRefused found _ = ⊥

-- Why a ledger's history makes no book of a domain: none can be had, for the reason that is told, or the domain refuses a
-- command. Memory may run out.
abbrev pub IsUnmade : (Result (List Command) LedgerFault → Type 0) → Domain → HeldFault → Type 0
IsUnmade stands d (faults.Book (books.Ledger fault)) = (fault ≢ ledgers.NoMemory) × stands (Err fault)
IsUnmade stands d (faults.Book (books.Command refused)) =
    IsReplayed stands d (Err (refused.serial, refused.refusal))
IsUnmade stands d faults.NoMemory = Unit {0}
IsUnmade stands d _ = ⊥

-- Why it is not told what a domain makes of a ledger's history: there is no book, or no text says what it holds.
abbrev pub IsUntold : (Result (List Command) LedgerFault → Type 0) → Result Domain DomainFault → HeldForm → HeldFault → Type 0
IsUntold stands (Ok d) form fault =
    IsUnmade stands d fault ⊎ ((b : Book) × IsReplayed stands d (Ok b) × IsUnsaid form b fault)
IsUntold stands (Err fault) form told = (told ≡ faults.Domain fault) ⊎ (told ≡ faults.NoMemory)
