use Rattle.dsedge_faults.proofs.FrontLemmas.{given_or_front}
use Rattle.dsedge_faults.proofs.advising.tell_system.Goals as goal

-- what the system calls an error
pub returns-in-Ok-clause-line : goal.returns-in-Ok-clause-line
returns-in-Ok-clause-line g c told =
    (c.as_bytes.result.now, given_or_front c.give_all.result (g.F.Outlet.held c.args.faults.now) (g.F.Outlet.held c.give_all.new.outlet) c.as_bytes.result.now (c.give_all.ensures.bytes told))
