use Rattle.std.proofs.Common.{◌≡◌, false, nat_lt, subst, sym, ap, ◌∙◌, arith}
use Rattle.std.proofs.lemmas.Bool.Decides.{nat_tests}
use Rattle.pcap_capture.proofs.CountLaws.{reads_from}
use Rattle.pcap_capture.specs.Counts.{IsOfReads}
use Rattle.ds_marking.specs.Markings.{is_unread}
use Rattle.ds_marking.proofs.MarkingLaws.{passed_at}
use Rattle.ds_marking.proofs.PassingLaws.{ended_reading}
use Rattle.ds_conductor.proofs.WorkingLaws.{few_with, known_with, marked_alone, marked_beside, off_with, unread_with, writes_with}
use Rattle.ds_conductor.proofs.working.mark_by.Goals as goal

pub returns-then-workers-lt2-clause-marked : goal.returns-then-workers-lt2-clause-marked
returns-then-workers-lt2-clause-marked g c = λ given tells.
    marked_alone (nat_lt c.args.workers 2) c.args.accepted.now c.args.port.now c.args.red _ _ _ _ _ (c.mark.ensures.marked given tells)

pub returns-in-Err-clause-marked : goal.returns-in-Err-clause-marked
returns-in-Err-clause-marked g c = λ given tells.
    marked_alone (nat_lt c.args.workers 2) c.args.accepted.now c.args.port.now c.args.red _ _ _ _ _ (c.in-Err.ensures.begun given (g.O.Outlet.held c.args.outlet.now))

pub returns-clause-marked : goal.returns-clause-marked
returns-clause-marked g c = λ given tells.
    let held = g.O.Outlet.held c.args.outlet.now in
    let bytes = g.I.Intake.left c.args.intake.now in
    let begun = c.in-Ok.ensures.begun given held in
    let turned = c.turn_all_by-turned.ensures.taken.turned (c.in-Ok.ensures.told given) tells bytes held begun.1.passing in
    let many : nat_lt c.args.workers 2 ≡ false = grind (arith, nat_tests) in
    rw c.answer_with.ensures
    (marked_beside (nat_lt c.args.workers 2) c.turn_all_by-turned.result.1 c.args.accepted.now c.args.port.now c.args.red bytes _ held _ c.end.result many
    (passed_at c.args.accepted.now c.args.port.now c.args.red bytes _ _ held _ c.in-Ok.passage begun c.turn_all_by-turned.new.passage.port c.turn_all_by-turned.ensures.taken.port c.end.result
    (λ is at. c.end.ensures.marked (c.turn_all_by-turned.ensures.taken.told tells) c.turn_all_by-turned.new.passage.conditioner c.args.port.now bytes _ held is
    (λ frames text was. c.make_all.ensures.made c.turn_all_by-turned.new.passage.port frames text was) at)
    turned))

pub returns-clause-writes : goal.returns-clause-writes
returns-clause-writes g c =
    rw c.answer_with.ensures
    (writes_with c.turn_all_by-turned.result.1 c.turn_all_by-turned.result.0 c.end.result _ _ _ c.turn_all_by-turned.ensures.failures c.end.ensures.writes c.end.ensures.told)

pub returns-clause-reads : goal.returns-clause-reads
returns-clause-reads g c = λ whole.
    let lost = c.turn_all_by-turned.result.1 in
    let same = ap is_unread c.answer_with.ensures ∙ unread_with lost c.end.result in
    let off = sym (off_with lost c.end.result) ∙ rw c.answer_with.ensures at whole in
    subst (λ b. IsOfReads b (g.I.Intake.failed c.args.intake.now) (g.I.Intake.failed c.turn_all_by-turned.new.intake) (g.I.Intake.calls c.turn_all_by-turned.new.intake)) (sym same)
    (reads_from (is_unread c.end.result) _ _ _ _ c.in-Ok.ensures.reads
    (ended_reading c.turn_all_by-turned.result.0 c.end.result _ _ _ c.turn_all_by-turned.ensures.taken.fault c.end.ensures.told c.turn_all_by-turned.ensures.taken.reads off))

pub returns-clause-known : goal.returns-clause-known
returns-clause-known g c = λ is. rw c.answer_with.ensures (known_with c.turn_all_by-turned.result.1 c.end.result c.end.ensures.known)

pub returns-clause-few : goal.returns-clause-few
returns-clause-few g c = rw c.answer_with.ensures (few_with c.turn_all_by-turned.result.1 c.end.result c.end.ensures.few)
