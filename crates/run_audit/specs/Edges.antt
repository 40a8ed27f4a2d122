-- Packets that an edge sends.
use Rattle.std.specs.Prelude.{List, [], ◌∷◌, Option, None, Some}
use Rattle.meter_fabric_base.specs.declared.trail.Receipt.{Receipt}
use Rattle.run_audit.specs.Sendings.{Sending}

-- a policed packet is sent by its edge, whose receipt is its first
abbrev pub edge_sending : List Receipt → Option Sending
edge_sending [] = None
edge_sending (edge ∷ receipts) =
    Some (record { moment = edge.row.arrival; colour = edge.row.left; receipts = receipts })
