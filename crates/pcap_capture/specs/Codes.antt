-- The numbers of the faults.
use Rattle.std.specs.Prelude.{ℕ}
use Rattle.pcap_capture.specs.declared.device.DeviceFault.{DeviceFault}
use Rattle.pcap_capture.specs.declared.device.DeviceFault.TheVariants as device_faults
use Rattle.pcap_capture.specs.declared.fault.PcapFault.{PcapFault}
use Rattle.pcap_capture.specs.declared.fault.PcapFault.TheVariants.{NotPcap, IsPcapng, BadVersion, LinkType}
use Rattle.pcap_capture.specs.declared.fault.PcapFault.TheVariants.{RecordTooLong, Truncated, ReadFault, WriteFault}
use Rattle.pcap_capture.specs.declared.fault.PcapFault.TheVariants.{NoMemory, Failed, BadMagic, BadLength}
use Rattle.pcap_capture.specs.declared.fault.PcapFault.TheVariants.{BlockTooLong, LengthsDiffer, UnknownInterface}

abbrev pub device_code_of : DeviceFault → ℕ
device_code_of device_faults.Failed = 1
device_code_of device_faults.Spent = 2

abbrev pub code_of : PcapFault → ℕ
code_of NotPcap = 1
code_of IsPcapng = 2
code_of BadVersion = 3
code_of (LinkType number) = 4
code_of (RecordTooLong count) = 5
code_of Truncated = 6
code_of ReadFault = 7
code_of WriteFault = 8
code_of NoMemory = 9
code_of Failed = 10
code_of BadMagic = 11
code_of (BadLength size) = 12
code_of (BlockTooLong size) = 13
code_of LengthsDiffer = 14
code_of (UnknownInterface number) = 15
