use Rattle.std.proofs.Common.{codes, refl}
use Rattle.dsedge_faults.proofs.FrontLemmas.{between, given_as}
use Rattle.dsedge_faults.proofs.fault.tell_line.Goals as goal

pub returns-clause-line : goal.returns-clause-line
returns-clause-line g c told =
    given_as c.give_parts.result (g.F.Outlet.held c.args.faults.now) (g.F.Outlet.held c.give_parts.new.outlet) _ _
    (between c.args.front.now c.args.back.now c.args.back.now (codes "\n") refl) (c.give_parts.ensures.bytes told)
