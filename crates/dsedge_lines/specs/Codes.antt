-- The numbers of faults.
use Rattle.std.specs.Prelude.{ℕ}
use Rattle.dsedge_lines.specs.declared.fault.PumpFault.{PumpFault}
use Rattle.dsedge_lines.specs.declared.fault.PumpFault.TheVariants.{Read, Write, NoMemory}

-- the number of a fault of the pump
abbrev pub pump_fault_code : PumpFault → ℕ
pump_fault_code Read = 1
pump_fault_code Write = 2
pump_fault_code NoMemory = 3
