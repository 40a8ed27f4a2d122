-- The numbers of faults.
use Rattle.std.specs.Prelude.{ℕ}
use Rattle.ds_desk.specs.declared.fault.LookFault.{LookFault}
use Rattle.ds_desk.specs.declared.fault.LookFault.TheVariants.{DeskGone, PageBehind}

abbrev pub look_code : LookFault → ℕ
look_code DeskGone = 1
look_code PageBehind = 2
