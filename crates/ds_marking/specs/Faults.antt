-- The faults of a marking, and their numbers.
use Rattle.std.specs.Prelude.{ℕ}
use Rattle.pcap_capture.specs.declared.fault.PcapFault.{PcapFault}
use Rattle.pcap_capture.specs.declared.fault.PcapFault.TheVariants as pcaps
use Rattle.ds_marking.specs.declared.fault.MarkFault.{MarkFault}
use Rattle.ds_marking.specs.declared.fault.MarkFault.TheVariants.{Capture, UnknownPort, JournalFull, NoMemory}

abbrev pub code_of : MarkFault → ℕ
code_of (Capture fault) = 1
code_of UnknownPort = 2
code_of JournalFull = 3
code_of NoMemory = 4

-- what is answered where a capture could not be read on
abbrev pub fault_of : PcapFault → MarkFault
fault_of pcaps.NoMemory = NoMemory
fault_of fault = Capture fault
