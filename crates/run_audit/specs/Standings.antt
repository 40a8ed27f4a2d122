-- Packets contract by contract, each contract's as they are sent.
use Rattle.std.specs.Prelude.{◌&&◌, ◌||◌, nat_eq, nat_lt, Bool, List}
use Rattle.run_audit.specs.Runs.{Passage}
use Rattle.meter_fabric_base.specs.Orders.{in_order}
use Rattle.run_audit.specs.Verdicts.{is_begun_before}

abbrev pub stands_before : Passage → Passage → Bool
stands_before p q = nat_lt p.packet.flow q.packet.flow || nat_eq p.packet.flow q.packet.flow && is_begun_before p q

abbrev pub by_contract : List Passage → List Passage
by_contract passages = in_order stands_before passages
