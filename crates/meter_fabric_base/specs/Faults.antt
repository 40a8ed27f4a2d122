-- The numbers of faults, and what the fault of a book is to a packet.
use Rattle.std.specs.Prelude.{ℕ}
use Rattle.meter_book.specs.declared.book.NoteFault.{NoteFault}
use Rattle.meter_book.specs.declared.book.NoteFault.TheVariants as notes
use Rattle.meter_fabric_base.specs.declared.fault.BeginFault.{BeginFault}
use Rattle.meter_fabric_base.specs.declared.fault.BeginFault.TheVariants as begins
use Rattle.meter_fabric_base.specs.declared.fault.VisitFault.{VisitFault}
use Rattle.meter_fabric_base.specs.declared.fault.VisitFault.TheVariants as visits

abbrev pub begin_code : BeginFault → ℕ
begin_code begins.UnknownFlow = 1
begin_code begins.NoMemory = 2

abbrev pub visit_code : VisitFault → ℕ
visit_code visits.PathEnded = 1
visit_code visits.JournalFull = 2
visit_code visits.NoMemory = 3
visit_code visits.BeforeLast = 4
visit_code visits.NoEdge = 5
visit_code visits.Shut = 6

abbrev pub visit_fault_of : NoteFault → VisitFault
visit_fault_of notes.JournalFull = visits.JournalFull
visit_fault_of notes.NoMemory = visits.NoMemory
visit_fault_of notes.Shut = visits.Shut
