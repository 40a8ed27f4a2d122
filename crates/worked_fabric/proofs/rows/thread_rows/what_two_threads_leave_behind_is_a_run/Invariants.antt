use Rattle.meter_fabric.specs.Fabrics.{fabric_of}
use Rattle.worked_fabric.proofs.rows.thread_rows.what_two_threads_leave_behind_is_a_run.Given as goal

abbrev pub ghosts-taken-L-FabricLedger : goal.ghosts-taken-L-FabricLedger
ghosts-taken-L-FabricLedger g a = record { fabric = fabric_of a.accepted.now.domain 1 4096 2 }

abbrev pub ghosts-taken-L-Ledger : goal.ghosts-taken-L-Ledger
ghosts-taken-L-Ledger g a = record { name = a.blank.name; parts = a.blank.parts }
