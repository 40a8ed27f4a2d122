use Rattle.std.proofs.Common.{[], append-nil, refl, sym}
use Rattle.dsedge_serve.proofs.marking.tell_fault_object.Goals as goal

pub returns-in-None-clause-line : goal.returns-in-None-clause-line
returns-in-None-clause-line g c told = rw c.in-None.is ([], refl, sym (append-nil (g.F.Outlet.held c.args.faults.now)))

pub returns-in-Some-clause-line : goal.returns-in-Some-clause-line
returns-in-Some-clause-line g c told = rw (c.in-Some.is, ← c.marking_fault.ensures) (c.tell_object.ensures.line told)
