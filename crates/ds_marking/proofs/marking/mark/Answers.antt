use Rattle.pcap_capture.proofs.CountLaws.{reads_from}
use Rattle.ds_marking.specs.Markings.{is_unread}
use Rattle.ds_marking.proofs.MarkingLaws.{passed_at}
use Rattle.ds_marking.proofs.PassingLaws.{ended_reading, ended_writes}
use Rattle.ds_marking.proofs.marking.mark.Goals as goal

pub returns-in-Err-clause-marked : goal.returns-in-Err-clause-marked
returns-in-Err-clause-marked g c = λ given tells. c.in-Err.ensures.begun given (g.O.Outlet.held c.args.outlet.now)

pub returns-clause-marked : goal.returns-clause-marked
returns-clause-marked g c = λ given tells.
    let held = g.O.Outlet.held c.args.outlet.now in
    let bytes = g.I.Intake.left c.args.intake.now in
    let begun = c.in-Ok.ensures.begun given held in
    let turned = c.turn_all-turned.ensures.taken.turned (c.in-Ok.ensures.told given) tells bytes held begun.1.passing in
    passed_at c.args.accepted.now c.args.port.now c.args.red bytes _ _ held _ c.in-Ok.passage begun c.turn_all-turned.new.passage.port c.turn_all-turned.ensures.taken.port c.end.result
    (λ is at. c.end.ensures.marked (c.turn_all-turned.ensures.taken.told tells) c.turn_all-turned.new.passage.conditioner c.args.port.now bytes _ held is
    (λ frames text was. c.make_all.ensures.made c.turn_all-turned.new.passage.port frames text was) at)
    turned

pub returns-clause-writes : goal.returns-clause-writes
returns-clause-writes g c = ended_writes c.turn_all-turned.result c.end.result _ _ _ c.turn_all-turned.ensures.failures c.end.ensures.writes c.end.ensures.told

pub returns-clause-reads : goal.returns-clause-reads
returns-clause-reads g c = λ whole.
    reads_from (is_unread c.end.result) _ _ _ _ c.in-Ok.ensures.reads
    (ended_reading c.turn_all-turned.result c.end.result _ _ _ c.turn_all-turned.ensures.taken.fault c.end.ensures.told c.turn_all-turned.ensures.taken.reads whole)
