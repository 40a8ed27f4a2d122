-- What an error of the database is told as.
use Rattle.std.specs.Prelude.{⊤, Result, Ok, Err}
use Rattle.std.specs.IoError.{error_kind}
use Rattle.std.specs.declared.io.ErrorKind.{ErrorKind}
use Rattle.std.specs.declared.io.ErrorKind.TheVariants as kinds
use Rattle.sqlite.specs.declared.error.Error.{Error}
use Rattle.sqlite.specs.declared.error.Error.TheVariants.{SqliteFailure}
use Rattle.sqlite.specs.declared.error.ErrorCode.TheVariants as codes
use Rattle.sqlite_std_file.specs.declared.pair.OpenError.{OpenError}
use Rattle.sqlite_std_file.specs.declared.pair.OpenError.TheVariants as opening
use Rattle.ds_ledger_base.specs.declared.fault.LedgerFault.{LedgerFault}
use Rattle.ds_ledger_base.specs.declared.fault.LedgerFault.TheVariants as faults

abbrev pub fault_of_open : Error → LedgerFault
fault_of_open (SqliteFailure codes.NotADatabase) = faults.NoDatabase
fault_of_open (SqliteFailure codes.DatabaseCorrupt) = faults.Damaged
fault_of_open (SqliteFailure codes.DatabaseBusy) = faults.Busy
fault_of_open (SqliteFailure codes.OutOfMemory) = faults.NoMemory
fault_of_open (SqliteFailure codes.CannotOpen) = faults.Open
fault_of_open _ = faults.Write

abbrev pub fault_of_read : Error → LedgerFault
fault_of_read (SqliteFailure codes.OutOfMemory) = faults.NoMemory
fault_of_read (SqliteFailure codes.SystemIoFailure) = faults.Write
fault_of_read (SqliteFailure codes.DiskFull) = faults.Write
fault_of_read _ = faults.Damaged

abbrev pub fault_of_write : Error → LedgerFault
fault_of_write (SqliteFailure codes.OutOfMemory) = faults.NoMemory
fault_of_write _ = faults.Write

-- what an error of the system is told as, where a file is looked for
abbrev pub fault_of_kind : ErrorKind → LedgerFault
fault_of_kind kinds.OutOfMemory = faults.NoMemory
fault_of_kind _ = faults.Open

-- why the two files of a database cannot be had
abbrev pub fault_of_files : OpenError → LedgerFault
fault_of_files (opening.Io error) = fault_of_kind (error_kind error)
fault_of_files opening.OutOfMemory = faults.NoMemory
fault_of_files opening.Busy = faults.Busy
fault_of_files opening.HotJournal = faults.Open

-- what a second opening of the files tells of the lock of the first: it holds where that is refused as busy
abbrev pub lock_of : {T : Type 0} → Result T OpenError → Result ⊤ LedgerFault
lock_of (Ok opened) = Err faults.Busy
lock_of (Err opening.Busy) = Ok tt
lock_of (Err error) = Err (fault_of_files error)
