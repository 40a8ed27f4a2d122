-- How a broker goes on from what its ledger keeps.
use Rattle.std.specs.Prelude.{◌≡◌, ◌⊎◌, ◌≤◌, ℕ, List, [], length, None, Ok, Err}
use Rattle.ds_broker.specs.Books.{Book}
use Rattle.ds_broker.specs.declared.command.Command.{Command}
use Rattle.ds_broker.specs.declared.refusal.BrokerRefusal.TheVariants.{NoMemory}
use Rattle.ds_ledger_base.specs.Replays.{replay}
use Rattle.ds_ledger_base.specs.declared.fault.BookFault.{BookFault}
use Rattle.ds_ledger_base.specs.declared.fault.BookFault.TheVariants as faults
use Rattle.ds_ledger_base.specs.declared.fault.LedgerFault.TheVariants as ledgers
use Rattle.dsedge_lines.specs.Answers.{Answer, behind}
use Rattle.dsedge_drive.specs.Driven.{drive_from, opening_book}
use Rattle.dsedge_drive.specs.Kept.{Selling}
use Rattle.dsedge_drive.specs.declared.command.Sale.{Sale}

-- what is answered to lines from a number on, behind what is answered and not given out
abbrev pub answer_behind : Selling → ℕ → List (List ℕ) → Answer
answer_behind s number lines = behind s.unsaid (drive_from s.in_json s.offered s.book number lines)

-- a book accepted commands behind those that it had, if any, and nothing else changed in it
abbrev pub HasGrown : Book → Book → Type 0
HasGrown old new = (more : List Command) × (replay old more ≡ Ok new)

-- what was asked of a broker may be accepted, and its ledger keeps as many commands as before
abbrev pub IsGrown : Selling → Selling → Type 0
IsGrown old new = HasGrown old.book new.book × (new.kept ≡ old.kept)

-- a ledger keeps more commands than before, if any, or tells why it keeps no more
abbrev pub IsFurtherKept : Selling → Selling → Type 0
IsFurtherKept old new = (new ≡ record old { kept = new.kept; fault = new.fault }) × (old.kept ≤ new.kept)

-- all commands of the book are kept, or this is so
abbrev pub IsKeptOr : Type 0 → Selling → Type 0
IsKeptOr other s = (s.kept ≡ length s.book.history) ⊎ other

-- The book is what becomes of that of the domain as it is asked the commands of the ledger. All of them are kept.
pub record IsOpened (sale : Sale) (history : List Command) (s : Selling) : Type 0 where
  pub in_json : s.in_json ≡ sale.in_json
  pub offered : s.offered ≡ sale.contracts.items
  pub replayed : replay (opening_book sale.domain sale.limits) history ≡ Ok s.book
  pub unsaid : s.unsaid ≡ []
  pub kept : s.kept ≡ length s.book.history
  pub fault : s.fault ≡ None

-- a command of the ledger is refused by its book, or memory ran out
abbrev pub IsUnopened : Sale → List Command → BookFault → Type 0
IsUnopened sale history (faults.Ledger fault) = fault ≡ ledgers.NoMemory
IsUnopened sale history (faults.Command refused) =
    (refused.refusal ≡ NoMemory)
    ⊎ (replay (opening_book sale.domain sale.limits) history ≡ Err (refused.serial, refused.refusal))
