use Rattle.std.proofs.Common.{ap, sym, ◌∙◌}
use Rattle.ds_ledger.specs.Faults.{fault_of_kind}
use Rattle.ds_ledger.proofs.fault.fault_of_io.Goals as goal

pub returns-in-OutOfMemory : goal.returns-in-OutOfMemory
returns-in-OutOfMemory c = ap fault_of_kind (sym c.in-OutOfMemory.is ∙ c.kind.ensures)
