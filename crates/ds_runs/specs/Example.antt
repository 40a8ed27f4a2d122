-- The least domain with a packet once more: the packet is sent, and marked green.
use Rattle.std.specs.Prelude.{◌≡◌, List, [], ◌∷◌}
use Rattle.moment_core.specs.declared.colour.Colour.TheVariants.{Green}
use Rattle.ds_checker.specs.Acceptance.{IsAcceptable}
use Rattle.meter_fabric_base.specs.Grounds.{ground_of}
use Rattle.run_audit.specs.Examples.{small_run, small_table}
use Rattle.run_audit.specs.Verdicts.{verdict_of}
use Rattle.run_audit.specs.declared.verdict.Verdict.TheVariants.{Kept}
use Rattle.ds_conductor_base.specs.Passing.{colours_of}
use Rattle.ds_conductor_base.specs.declared.sent.Sent.{Sent}
use Rattle.ds_runs.specs.Behind.{AreSendable}
use Rattle.ds_runs.specs.Making.{run_behind}

-- its one packet, with code point AF11
abbrev pub small_packet : Sent
small_packet = record { flow = 0; packet = 0; size = 100; dscp = 10; moment = 0 }

abbrev pub small_sent : List Sent
small_sent = small_packet ∷ []

-- The table is acceptable and the packet can be sent; the run behind it is that of the example, which is kept; and the
-- packet is marked green.
abbrev pub SmallPacketIsMarked : Type 0
SmallPacketIsMarked =
    IsAcceptable small_table
    × AreSendable small_table small_sent
    × (run_behind small_table small_sent ≡ small_run)
    × (verdict_of (ground_of small_table) (run_behind small_table small_sent) ≡ Kept)
    × (colours_of small_table small_sent ≡ Green ∷ [])
