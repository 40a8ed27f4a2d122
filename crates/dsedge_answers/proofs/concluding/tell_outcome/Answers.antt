use Rattle.std.proofs.Common.{◌∙◌, [], sym, inl, append-nil, refl}
use Rattle.dsedge_json_faults.specs.FaultObjects.{IsNoticeTold}
use Rattle.dsedge_json_faults.proofs.TellingLaws.{told_by}
use Rattle.dsedge_answers.proofs.concluding.tell_outcome.Goals as goal

pub returns-clause-told : goal.returns-clause-told
returns-clause-told g c told =
    rw (← c.in-Some.ensures) (told_by c.tell_notice-told.result (IsNoticeTold c.args.in_json c.in-Some.notice) (g.F.Outlet.held c.args.faults.now) (g.F.Outlet.held c.tell_notice-told.new.faults)
    (g.F.Outlet.failed c.args.faults.now) (g.F.Outlet.failed c.tell_notice-told.new.faults) (c.tell_notice-told.ensures.line told) c.tell_notice-told.ensures.failures)

pub returns-in_default-clause-told : goal.returns-in_default-clause-told
returns-in_default-clause-told g c told =
    rw (sym c.notice.ensures ∙ c.in_default.is) ([], refl, inl (sym (append-nil (g.F.Outlet.held c.args.faults.now))))
