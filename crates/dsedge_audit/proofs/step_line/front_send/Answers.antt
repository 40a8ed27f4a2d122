use Rattle.std.proofs.Common.{sym, ◌∙◌}
use Rattle.dsedge_audit.proofs.StepLaws.{send_front}
use Rattle.dsedge_audit.proofs.step_line.front_send.Goals as goal

pub returns : goal.returns
returns c =
    let step = c.in_ok-send_of.ensures in
    let name = c.in_ok-name.ensures in
    rw step.0 (send_front c.args.flows.now.contracts c.args.fields.now c.in_ok-name.name.now c.in_ok-name.numbers.now c.in_ok-packet.sizes.now c.in_ok-bytes.points.now
    c.in_ok-value.moments.now c.in_ok-nanoseconds.rest.now c.in_ok-flow.flow c.in_ok-packet.packet c.in_ok-bytes.bytes c.in_ok-value.value c.in_ok-nanoseconds.nanoseconds
    name.2 name.0 name.1 (sym c.flow.ensures ∙ c.in_ok-flow.was) c.in_ok-packet.ensures.number c.in_ok-bytes.ensures.number c.in_ok-value.ensures.number
    c.in_ok-nanoseconds.ensures.number step.1 step.2 step.3 step.4 step.5)
