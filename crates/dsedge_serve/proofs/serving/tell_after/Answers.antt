use Rattle.std.proofs.Common.{List, [], ℕ, ap, subst}
use Rattle.dsedge_base.specs.Files.{Names}
use Rattle.dsedge_json_faults.specs.FaultObjects.{IsToldBy}
use Rattle.dsedge_json_faults.proofs.TellingLaws.{told_by}
use Rattle.dsedge_serve.specs.Marked.{IsMarkingTold}
use Rattle.dsedge_serve.proofs.serving.tell_after.Goals as goal

pub returns-in-Marked-clause-told : goal.returns-in-Marked-clause-told
returns-in-Marked-clause-told g c told =
    let before = g.F.Outlet.held c.args.faults.now in
    let after = g.F.Outlet.held c.tell_marking-told.new.faults in
    let failed = g.F.Outlet.failed c.args.faults.now in
    let now = g.F.Outlet.failed c.tell_marking-told.new.faults in
    rw c.in-Marked.is (subst (λ (port : List ℕ). IsToldBy (IsMarkingTold c.in-Marked.report c.in-Marked.told c.in-Marked.fault port) before after failed now)
    (ap (λ (n : Names). n.port) c.names.view_is)
    (told_by c.tell_marking-told.result (IsMarkingTold c.in-Marked.report c.in-Marked.told c.in-Marked.fault c.names.inside.port.now) before after failed now
    (c.tell_marking-told.ensures.line told) c.tell_marking-told.ensures.failures))
