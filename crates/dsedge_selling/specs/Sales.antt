-- How a sale ends whose book a ledger keeps.
use Rattle.std.specs.Prelude.{Option, Some, Result, Ok, Err}
use Rattle.ds_broker.specs.declared.refusal.BrokerRefusal.{BrokerRefusal}
use Rattle.ds_broker.specs.declared.refusal.BrokerRefusal.TheVariants as refusals
use Rattle.ds_ledger_base.specs.declared.fault.BookFault.{BookFault}
use Rattle.ds_ledger_base.specs.declared.fault.BookFault.TheVariants as books
use Rattle.ds_ledger_base.specs.declared.fault.LedgerFault.{LedgerFault}
use Rattle.ds_ledger_base.specs.declared.fault.LedgerFault.TheVariants as ledgers
use Rattle.ds_ledger_base.specs.declared.fault.RefusedReplay.{RefusedReplay}
use Rattle.dsedge_lines.specs.declared.command.Ending.{Ending}
use Rattle.dsedge_lines.specs.declared.fault.PumpFault.{PumpFault}
use Rattle.dsedge_lines.specs.declared.fault.PumpFault.TheVariants as pump_faults
use Rattle.dsedge_answers.specs.declared.conclusion.Conclusion.{Conclusion}
use Rattle.dsedge_answers.specs.declared.conclusion.Conclusion.TheVariants.{Ended, Unkept}

-- by a fault of its ledger
abbrev pub unkept_as : LedgerFault → Result Conclusion PumpFault
unkept_as ledgers.NoMemory = Err pump_faults.NoMemory
unkept_as fault = Ok (Unkept (books.Ledger fault))

-- by the answer to its lines, and the fault of its ledger that ended that, if one did
abbrev pub concluded_as : Result Ending PumpFault → Option LedgerFault → Result Conclusion PumpFault
concluded_as (Ok ending) fault = Ok (Ended ending)
concluded_as (Err pump_faults.NoMemory) (Some fault) = unkept_as fault
concluded_as (Err fault) _ = Err fault

-- a command that the book refuses now, or memory ran out at it
abbrev pub refused_as : RefusedReplay → BrokerRefusal → Result Conclusion PumpFault
refused_as refused refusals.NoMemory = Err pump_faults.NoMemory
refused_as refused _ = Ok (Unkept (books.Command refused))

-- before its first line
abbrev pub unopened_as : BookFault → Result Conclusion PumpFault
unopened_as (books.Ledger fault) = unkept_as fault
unopened_as (books.Command refused) = refused_as refused refused.refusal

-- where no ledger keeps the book, none ends the sale
abbrev pub unledgered_as : Result Conclusion PumpFault → Result Conclusion PumpFault
unledgered_as (Ok (Unkept fault)) = Err pump_faults.NoMemory
unledgered_as sold = sold
