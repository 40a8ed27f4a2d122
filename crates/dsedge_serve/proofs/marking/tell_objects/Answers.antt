use Rattle.std.proofs.Common.{ℕ, Vec, Global, option_map}
use Rattle.std.proofs.lemmas.Result.{err_from_is_err_and}
use Rattle.dsedge_serve.proofs.TellLemmas.{front_told, objects_told}
use Rattle.dsedge_serve.proofs.marking.tell_objects.Goals as goal

pub returns-clause-line : goal.returns-clause-line
returns-clause-line g c told =
    objects_told c.tell_fault_object.result (option_map (λ (l : Vec ℕ Global). l.items) c.args.line.now) c.args.fault c.args.port.now
    (g.F.Outlet.held c.args.faults.now) (g.F.Outlet.held c.tell_object_of.new.faults) (g.F.Outlet.held c.tell_fault_object.new.faults)
    (c.in_ok-tell_object_of.ensures.line told) (c.tell_fault_object.ensures.line (c.in_ok-tell_object_of.ensures.told told))

pub returns-in_err-tell_object_of-clause-line : goal.returns-in_err-tell_object_of-clause-line
returns-in_err-tell_object_of-clause-line g c told =
    let p = err_from_is_err_and c.from_residual.result c.from_residual.ensures.1 in
    rw p.1 (front_told (option_map (λ (l : Vec ℕ Global). l.items) c.args.line.now) c.args.fault c.args.port.now
    (g.F.Outlet.held c.args.faults.now) (g.F.Outlet.held c.tell_object_of.new.faults) (c.in_err-tell_object_of.ensures.line told))
