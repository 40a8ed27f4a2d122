use Rattle.meter_fabric.specs.Fabrics.{fabric_of}
use Rattle.worked_fabric.proofs.rows.memory_rows.try_whole.Given as goal

abbrev pub ghosts-whole-L-FabricLedger : goal.ghosts-whole-L-FabricLedger
ghosts-whole-L-FabricLedger g a = record { fabric = fabric_of a.accepted.now.domain 1 8 2 }

abbrev pub ghosts-whole-L-Ledger : goal.ghosts-whole-L-Ledger
ghosts-whole-L-Ledger g a = record { name = a.blank.name; parts = a.blank.parts }
