use Rattle.meter_fabric.specs.Fabrics.{fabric_of}
use Rattle.meter_fabric.proofs.work.with_fabric.Given as goal

-- the name of the one fabric that is made
abbrev pub ghosts-with_name-L-FabricLedger : goal.ghosts-with_name-L-FabricLedger
ghosts-with_name-L-FabricLedger g a = record { fabric = fabric_of a.domain.now a.edges a.capacity a.passes }

abbrev pub ghosts-with_name-L-Ledger : goal.ghosts-with_name-L-Ledger
ghosts-with_name-L-Ledger g a = record { name = a.blank.name; parts = a.blank.parts }
