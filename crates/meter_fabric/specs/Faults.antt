-- The numbers of faults.
use Rattle.std.specs.Prelude.{ℕ}
use Rattle.meter_fabric.specs.declared.fault.CloseFault.{CloseFault}
use Rattle.meter_fabric.specs.declared.fault.CloseFault.TheVariants as closes
use Rattle.meter_fabric.specs.declared.fault.FitFault.{FitFault}
use Rattle.meter_fabric.specs.declared.fault.FitFault.TheVariants as fits
use Rattle.meter_fabric.specs.declared.fault.ShutFault.{ShutFault}
use Rattle.meter_fabric.specs.declared.fault.ShutFault.TheVariants as shuts

abbrev pub fit_code : FitFault → ℕ
fit_code fits.NoSlot = 1
fit_code fits.SlotTaken = 2
fit_code fits.NoMemory = 3

abbrev pub shut_code : ShutFault → ℕ
shut_code shuts.NoEdge = 1
shut_code shuts.TooLate = 2

abbrev pub close_code : CloseFault → ℕ
close_code closes.PassMissing = 1
close_code closes.NoMemory = 2
close_code (closes.ChapterMissing site) = 3
close_code (closes.Uneven short long) = 4
