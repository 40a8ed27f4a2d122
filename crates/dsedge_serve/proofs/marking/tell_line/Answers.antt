use Rattle.std.proofs.Common.{[], ap, unwrap_or, ◌∙◌, sym}
use Rattle.dsedge_faults.proofs.FrontLemmas.{given_as, given_or_front}
use Rattle.dsedge_serve.proofs.marking.tell_line.Goals as goal

pub returns-in-Some-clause-line : goal.returns-in-Some-clause-line
returns-in-Some-clause-line g c told =
    let before = g.F.Outlet.held c.args.faults.now in
    let after = g.F.Outlet.held c.give_all.new.outlet in
    let is = c.in-Some.is in
    given_as c.give_all.result before after c.bytes.result.now (unwrap_or c.args.line.now []) (c.bytes.ensures ∙ sym (ap (λ o. unwrap_or o []) is))
    (given_or_front c.give_all.result before after c.bytes.result.now (c.give_all.ensures.bytes told))
