use Rattle.std.proofs.Common.{ap, sym, ◌∙◌}
use Rattle.ds_runs.specs.Steps.{Stage, opened, refusal_of, stepped}
use Rattle.dsedge_audit.proofs.AuditLaws.{known_first}
use Rattle.dsedge_audit.proofs.command.first_refusal.Goals as goal

pub returns-in-Some : goal.returns-in-Some
returns-in-Some c =
    let t = c.args.accepted.now in
    let sent = c.in-Send in
    known_first t sent.flow sent.packet sent.size sent.dscp sent.moment c.in-Some.field-0.now c.in-Some.ensures
    ∙ ap (λ s. refusal_of {A = Stage} (stepped t (opened t) s)) (sym sent.is)
