-- Which fault ended a call.
use Rattle.std.specs.Prelude.{Bool, true, false, Result, Ok, Err}
use Rattle.dsedge_lines.specs.declared.fault.PumpFault.{PumpFault}
use Rattle.dsedge_lines.specs.declared.fault.PumpFault.TheVariants.{Read, Write, NoMemory}

-- whether the input could not be read
abbrev pub is_read_fault : {T : Type 0} → Result T PumpFault → Bool
is_read_fault (Ok value) = false
is_read_fault (Err Read) = true
is_read_fault (Err Write) = false
is_read_fault (Err NoMemory) = false

-- whether the answer could not be written
abbrev pub is_write_fault : {T : Type 0} → Result T PumpFault → Bool
is_write_fault (Ok value) = false
is_write_fault (Err Read) = false
is_write_fault (Err Write) = true
is_write_fault (Err NoMemory) = false
