-- The numbers of faults, and what the fault of a packet is to a step.
use Rattle.std.specs.Prelude.{ℕ}
use Rattle.meter_fabric_base.specs.declared.fault.BeginFault.{BeginFault}
use Rattle.meter_fabric_base.specs.declared.fault.BeginFault.TheVariants as begins
use Rattle.meter_fabric_base.specs.declared.fault.VisitFault.{VisitFault}
use Rattle.meter_fabric_base.specs.declared.fault.VisitFault.TheVariants as visits
use Rattle.ds_runs.specs.declared.fault.ConductFault.{ConductFault}
use Rattle.ds_runs.specs.declared.fault.ConductFault.TheVariants as conducts
use Rattle.ds_runs.specs.declared.fault.StepFault.{StepFault}
use Rattle.ds_runs.specs.declared.fault.StepFault.TheVariants as steps

abbrev pub step_code : StepFault → ℕ
step_code steps.BadStep = 1
step_code steps.JournalFull = 2
step_code steps.NoMemory = 3

abbrev pub conduct_code : ConductFault → ℕ
conduct_code (conducts.BadStep index) = 1
conduct_code (conducts.JournalFull index) = 2
conduct_code conducts.NoMemory = 3

abbrev pub begin_fault_of : BeginFault → StepFault
begin_fault_of begins.UnknownFlow = steps.BadStep
begin_fault_of begins.NoMemory = steps.NoMemory

-- each site that a packet comes to has a book, and no book of a conductor is ever shut
abbrev pub visit_fault_of : VisitFault → StepFault
visit_fault_of visits.PathEnded = steps.BadStep
visit_fault_of visits.BeforeLast = steps.BadStep
visit_fault_of visits.JournalFull = steps.JournalFull
visit_fault_of visits.NoMemory = steps.NoMemory
visit_fault_of visits.NoEdge = steps.BadStep
visit_fault_of visits.Shut = steps.BadStep
