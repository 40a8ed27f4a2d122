-- How what is told of a book is written, and how that ends.
use Rattle.std.specs.Prelude.{◌≡◌, ℕ, List, Result, Ok, Err}
use Rattle.ds_broker.specs.declared.command.Command.{Command}
use Rattle.ds_ledger_base.specs.declared.fault.LedgerFault.{LedgerFault}
use Rattle.ds_domain_base.specs.Domains.{Domain}
use Rattle.ds_domain_base.specs.declared.fault.DomainFault.{DomainFault}
use Rattle.dsedge_answers.specs.Replies.{IsServed, whole_text}
use Rattle.dsedge_answers.specs.declared.conclusion.Conclusion.{Conclusion}
use Rattle.dsedge_answers.specs.declared.conclusion.Conclusion.TheVariants.{Unkept, Unsound}
use Rattle.dsedge_lines.specs.declared.fault.PumpFault.{PumpFault}
use Rattle.dsedge_lines.specs.declared.fault.PumpFault.TheVariants as pump_faults
use Rattle.dsedge_book.specs.Held.{IsHeldText, IsUntold}
use Rattle.dsedge_book.specs.declared.fault.HeldFault.{HeldFault}
use Rattle.dsedge_book.specs.declared.fault.HeldFault.TheVariants as faults
use Rattle.dsedge_book.specs.declared.held.HeldForm.{HeldForm}

-- how it ends where nothing is told
abbrev pub untold_as : HeldFault → Result Conclusion PumpFault
untold_as (faults.Domain fault) = Ok (Unsound fault)
untold_as (faults.Book fault) = Ok (Unkept fault)
untold_as (faults.Text fault) = Ok (Unsound fault)
untold_as faults.NoMemory = Err pump_faults.NoMemory

-- a text says what a book holds, or this is why none does
abbrev pub IsFound : (Result (List Command) LedgerFault → Type 0) → Result Domain DomainFault → HeldForm → Result (List ℕ) HeldFault → Type 0
IsFound stands found form (Ok text) = IsHeldText stands found form text
IsFound stands found form (Err fault) = IsUntold stands found form fault

-- a text was written, to its end or in front; or why there is none ended it before anything was written
abbrev pub IsTextTold : Result (List ℕ) HeldFault → Result Conclusion PumpFault → List ℕ → List ℕ → Type 0
IsTextTold (Ok text) outcome before after = IsServed (whole_text text) outcome before after
IsTextTold (Err fault) outcome before after = (outcome ≡ untold_as fault) × (after ≡ before)

-- what the book of a domain holds was told, whose commands stand so in a ledger, or why not
pub record IsBookTold (stands : Result (List Command) LedgerFault → Type 0) (domain : Result Domain DomainFault) (form : HeldForm)
    (outcome : Result Conclusion PumpFault) (before after : List ℕ) : Type 0 where
  pub text : Result (List ℕ) HeldFault
  pub found : IsFound stands domain form text
  pub told : IsTextTold text outcome before after
