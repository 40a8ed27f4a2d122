use Rattle.std.proofs.Common.{inl, inr, ◌∙◌}
use Rattle.dsedge_json_faults.proofs.TellingLaws.{memory_line, told_object}
use Rattle.dsedge_json_faults.proofs.telling.tell_object.Goals as goal

pub returns-in-Ok-clause-line : goal.returns-in-Ok-clause-line
returns-in-Ok-clause-line g c told =
    told_object c.give_all.result c.args.fault.now (g.F.Outlet.held c.args.faults.now) (g.F.Outlet.held c.give_all.new.outlet) c.as_slice.result.now
    (inl (c.as_slice.ensures.value ∙ c.in-Ok.ensures.object.line)) (c.give_all.ensures.bytes told)

pub returns-in-Err-clause-line : goal.returns-in-Err-clause-line
returns-in-Err-clause-line g c told =
    told_object c.give_all-in-Err.result c.args.fault.now (g.F.Outlet.held c.args.faults.now) (g.F.Outlet.held c.give_all-in-Err.new.outlet) _
    (inr memory_line) (c.give_all-in-Err.ensures.bytes told)
