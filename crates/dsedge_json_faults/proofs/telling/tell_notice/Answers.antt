use Rattle.dsedge_faults.proofs.FrontLemmas.{given_or_front}
use Rattle.dsedge_json_faults.proofs.telling.tell_notice.Goals as goal

pub returns-in-Refusal-clause-line : goal.returns-in-Refusal-clause-line
returns-in-Refusal-clause-line g c told =
    rw c.in-Refusal.is (
      c.bytes.result.now,
      c.bytes.ensures,
      given_or_front c.give_all.result (g.F.Outlet.held c.args.faults.now) (g.F.Outlet.held c.give_all.new.outlet) c.bytes.result.now (c.give_all.ensures.bytes told),
    )
