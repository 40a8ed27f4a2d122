use Rattle.dsedge_faults.proofs.FrontLemmas.{given_as, given_or_front}
use Rattle.dsedge_faults.proofs.notice.Notice.tell.Goals as goal

pub returns-in-Refusal-clause-line : goal.returns-in-Refusal-clause-line
returns-in-Refusal-clause-line g c told =
    let before = g.F.Outlet.held c.args.faults.now in
    let after = g.F.Outlet.held c.give_all.new.outlet in
    rw c.in-Refusal.is (given_as c.give_all.result before after c.bytes.result.now c.in-Refusal.line c.bytes.ensures
    (given_or_front c.give_all.result before after c.bytes.result.now (c.give_all.ensures.bytes told)))
