-- What is written where contracts are sold by lines.
use Rattle.std.specs.Prelude.{◌≡◌, ◌⊎◌, ℕ, Bool, List, [], Result, Ok, Err}
use Rattle.ds_broker.specs.Books.{Book, Limits}
use Rattle.ds_broker.specs.declared.command.Command.{Command}
use Rattle.ds_broker.specs.declared.refusal.BrokerRefusal.{BrokerRefusal}
use Rattle.ds_domain_base.specs.Domains.{Domain}
use Rattle.ds_domain_base.specs.declared.contract.Contract.{Contract}
use Rattle.ds_domain_base.specs.declared.fault.DomainFault.{DomainFault}
use Rattle.ds_ledger_base.specs.Replays.{replay}
use Rattle.ds_ledger_base.specs.declared.fault.BookFault.TheVariants as books
use Rattle.ds_ledger_base.specs.declared.fault.LedgerFault.{LedgerFault}
use Rattle.dsedge_lines.specs.declared.fault.PumpFault.{PumpFault}
use Rattle.dsedge_lines.specs.declared.fault.PumpFault.TheVariants as pump_faults
use Rattle.dsedge_drive.specs.Driven.{drive_from, driven, opening_book}
use Rattle.dsedge_answers.specs.Replies.{IsServed, Reply, reply_of}
use Rattle.dsedge_answers.specs.declared.conclusion.Conclusion.{Conclusion}
use Rattle.dsedge_answers.specs.declared.conclusion.Conclusion.TheVariants.{Unkept, Unsound}
use Rattle.pcap_capture.specs.Fronts.{IsFrontOf}
use Rattle.dsedge_selling.specs.Sales.{unkept_as}

-- The contracts that a domain text says are sold by lines, and answered by lines or by objects, by a book that takes so
-- much; the fault of the text ends it before anything is written.
abbrev pub reply_sold : Bool → Limits → Result (Domain × List Contract) DomainFault → List (List ℕ) → Reply
reply_sold in_json limits (Ok parsed) lines = reply_of (driven in_json parsed.0 limits parsed.1 lines)
reply_sold in_json limits (Err fault) lines = record { text = []; conclusion = Unsound fault }

-- Text was written behind what stood, as a reply has it: to its end, or a front of it, where a device failed, memory ran
-- out, or the ledger kept the book no more.
abbrev pub IsKeptServed : Reply → Result Conclusion PumpFault → List ℕ → List ℕ → Type 0
IsKeptServed reply (Ok (Unkept fault)) before after = IsFrontOf before reply.text after
IsKeptServed reply outcome before after = IsServed reply outcome before after

-- Contracts that are offered were sold by lines from the book on that the commands of a ledger led to; or one of these
-- was refused, which is told, and nothing was written. Memory may run out.
abbrev pub IsSoldBehind : Bool → Result Book (ℕ × BrokerRefusal) → List Contract → List (List ℕ) → Result Conclusion PumpFault
    → List ℕ → List ℕ → Type 0
IsSoldBehind in_json (Ok b) offered lines outcome before after =
    IsKeptServed (reply_of (drive_from in_json offered b 1 lines)) outcome before after
IsSoldBehind in_json (Err refused) offered lines outcome before after =
    (after ≡ before) × ((outcome ≡ Err pump_faults.NoMemory)
    ⊎ (outcome ≡ Ok (Unkept (books.Command (record { serial = refused.0; refusal = refused.1 })))))

-- a book of a domain went on from a history that a ledger keeps which stands so
pub record IsSoldOn (stands : Result (List Command) LedgerFault → Type 0) (in_json : Bool) (limits : Limits) (parsed : Domain × List Contract)
    (lines : List (List ℕ)) (outcome : Result Conclusion PumpFault) (before after : List ℕ) : Type 0 where
  pub history : List Command
  pub stood : stands (Ok history)
  pub sold : IsSoldBehind in_json (replay (opening_book parsed.0 limits) history) parsed.1 lines outcome before after

-- a ledger could not be had, and nothing was written: why not is told; or memory ran out
abbrev pub IsUnshelved : (Result (List Command) LedgerFault → Type 0) → Result Conclusion PumpFault → List ℕ → List ℕ → Type 0
IsUnshelved stands outcome before after =
    (after ≡ before)
    × ((outcome ≡ Err pump_faults.NoMemory) ⊎ ((fault : LedgerFault) × stands (Err fault) × (outcome ≡ unkept_as fault)))

abbrev pub IsSoldFrom : (Result (List Command) LedgerFault → Type 0) → Bool → Limits → Result (Domain × List Contract) DomainFault
    → List (List ℕ) → Result Conclusion PumpFault → List ℕ → List ℕ → Type 0
IsSoldFrom stands in_json limits (Ok parsed) lines outcome before after =
    IsUnshelved stands outcome before after ⊎ IsSoldOn stands in_json limits parsed lines outcome before after
IsSoldFrom stands in_json limits (Err fault) lines outcome before after =
    IsServed (record { text = []; conclusion = Unsound fault }) outcome before after
