use Rattle.std.proofs.Common.{[]}
use Rattle.meter_fabric.specs.Fabrics.{fabric_of}
use Rattle.worked_broker.proofs.life_rows.life.left_behind.Given as goal

-- the desk that is opened
abbrev pub ghosts-life-J-Naming : goal.ghosts-life-J-Naming
ghosts-life-J-Naming g a = record { log = a.log; opening = record { domain = a.plan.domain; limits = a.plan.limits; history = [] } }

-- the fabric of its domain
abbrev pub ghosts-life-L-FabricLedger : goal.ghosts-life-L-FabricLedger
ghosts-life-L-FabricLedger g a = record { fabric = fabric_of a.domain.now 2 64 2 }

abbrev pub ghosts-life-L-Ledger : goal.ghosts-life-L-Ledger
ghosts-life-L-Ledger g a = record { name = a.blank.name; parts = a.blank.parts }
