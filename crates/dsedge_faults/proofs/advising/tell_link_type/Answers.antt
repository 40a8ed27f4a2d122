use Rattle.dsedge_faults.specs.Advised.{link_type_advice}
use Rattle.dsedge_faults.proofs.AdviceLemmas.{link_type_parts}
use Rattle.dsedge_faults.proofs.FrontLemmas.{given_as}
use Rattle.dsedge_faults.proofs.advising.tell_link_type.Goals as goal

pub returns-clause-line : goal.returns-clause-line
returns-clause-line g c told =
    given_as c.give_parts.result (g.F.Outlet.held c.args.faults.now) (g.F.Outlet.held c.give_parts.new.outlet) _ (link_type_advice c.args.number)
    (link_type_parts c.args.number c.format.result.now c.format.ensures.text) (c.give_parts.ensures.bytes told)
