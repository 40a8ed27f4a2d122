use Rattle.dsedge_faults.proofs.FrontLemmas.{coded_line, given_as}
use Rattle.dsedge_faults.proofs.fault.tell_kind.Goals as goal

pub returns-clause-line : goal.returns-clause-line
returns-clause-line g c told =
    given_as c.give_parts.result (g.F.Outlet.held c.args.faults.now) (g.F.Outlet.held c.give_parts.new.outlet) _ _
    (coded_line c.args.front.now c.format.result.now c.args.code c.args.kind.now c.format.ensures.text) (c.give_parts.ensures.bytes told)
