-- What the fields of the command stand for, and what they keep.
use Rattle.std.specs.Prelude.{◌≡◌, ◌≤◌, ℕ, Bool, List, [], ◌++◌, length, take, Option, None, Some, Ok}
use Rattle.ds_domain_base.specs.declared.contract.Contract.{Contract}
use Rattle.ds_broker.specs.Books.{Book}
use Rattle.ds_broker.specs.declared.command.Command.{Command}
use Rattle.ds_ledger_base.specs.Replays.{replay}
use Rattle.ds_ledger_base.specs.declared.fault.LedgerFault.{LedgerFault}
use Rattle.ds_ledger_base.specs.declared.ledger.Ledger.{Ghosts}
use Rattle.dsedge_drive.specs.Driven.{Reply}

-- whether answers are objects, the contracts that are offered, the book, what is answered and not given out, how many commands of the book its ledger
-- keeps, and why it keeps no more, if it does not
pub record Selling : Type 0 where
  pub in_json : Bool
  pub offered : List Contract
  pub book : Book
  pub unsaid : List ℕ
  pub kept : ℕ
  pub fault : Option LedgerFault

-- what a line is answered with, if with anything, stands behind what is not given out
abbrev pub with_reply : Selling → Option Reply → Selling
with_reply s None = s
with_reply s (Some r) = record s { offered = r.offered; book = r.book; unsaid = s.unsaid ++ r.text }

-- commands are a beginning of a history that has at least so many of it
pub record IsBeginning (kept : ℕ) (history found : List Command) : Type 0 where
  pub count : ℕ
  pub enough : kept ≤ count
  pub within : count ≤ length history
  pub found_is : found ≡ take count history

-- A ledger keeps so many commands of a history. Whatever a crash leaves of it, the next open finds a beginning of the
-- history that has all of these.
pub record IsKept {L : Type 0} (g : Ghosts L) (ledger : L) (kept : ℕ) (history : List Command) : Type 0 where
  pub within : kept ≤ length history
  pub keeps : g.tells ledger → g.keeps ledger (take kept history)
  pub recovers : g.honest ledger → g.recovers ledger
  pub again : g.honest ledger → (found : List Command) → g.leaves ledger found → IsBeginning kept history found

-- a book with no command in it that has the domain and the limits of another
abbrev pub emptied : Book → Book
emptied b = record b { history = [] }

-- a book is what becomes of an empty one that is asked its commands
abbrev pub IsFold : Book → Type 0
IsFold b = replay (emptied b) b.history ≡ Ok b

-- Of a broker's ledger an open finds again, whatever a crash leaves, a beginning of its book's history that has every
-- command which it keeps; and the book that the domain makes of that beginning, where it refuses none.
pub record IsFoundAgain (s : Selling) (found : List Command) : Type 0 where
  pub beginning : IsBeginning s.kept s.book.history found
  pub fold : replay (emptied s.book) found ≡ Ok (record s.book { history = found })
