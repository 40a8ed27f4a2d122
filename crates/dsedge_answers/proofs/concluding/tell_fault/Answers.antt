use Rattle.dsedge_json_faults.specs.FaultObjects.{IsFaultTold}
use Rattle.dsedge_json_faults.proofs.TellingLaws.{told_by}
use Rattle.dsedge_answers.proofs.concluding.tell_fault.Goals as goal

pub returns-clause-told : goal.returns-clause-told
returns-clause-told g c told =
    told_by c.tell_fault-told.result (IsFaultTold c.args.in_json c.args.fault.now) (g.F.Outlet.held c.args.faults.now) (g.F.Outlet.held c.tell_fault-told.new.faults)
    (g.F.Outlet.failed c.args.faults.now) (g.F.Outlet.failed c.tell_fault-told.new.faults) (c.tell_fault-told.ensures.line told) c.tell_fault-told.ensures.failures
