use Rattle.dsedge_audit.proofs.StepLaws.{visit_front}
use Rattle.dsedge_audit.proofs.step_line.front_visit.Goals as goal

pub returns : goal.returns
returns c contracts =
    let step = c.in_ok-visit_of.ensures in
    rw step.0 (visit_front contracts c.args.fields.now c.in_ok-packet.moments.now c.in_ok-nanoseconds.rest.now c.in_ok-packet.packet c.in_ok-nanoseconds.nanoseconds
    c.in_ok-packet.ensures.number c.in_ok-nanoseconds.ensures.number step.1 step.2)
