use Rattle.std.proofs.Common.{codes, decimal}
use Rattle.dsedge_faults.specs.Advised.{record_advice}
use Rattle.dsedge_faults.proofs.FrontLemmas.{between, given_as}
use Rattle.dsedge_faults.proofs.advising.tell_record.Goals as goal

pub returns-clause-line : goal.returns-clause-line
returns-clause-line g c told =
    given_as c.give_parts.result (g.F.Outlet.held c.args.faults.now) (g.F.Outlet.held c.give_parts.new.outlet) _ (record_advice c.args.count)
    (between (codes "a record says that it has ") c.format.result.now (decimal c.args.count) _ c.format.ensures.text) (c.give_parts.ensures.bytes told)
