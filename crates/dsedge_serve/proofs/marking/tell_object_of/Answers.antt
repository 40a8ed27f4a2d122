use Rattle.dsedge_faults.proofs.FrontLemmas.{given_or_front}
use Rattle.dsedge_serve.proofs.marking.tell_object_of.Goals as goal

pub returns-in-Some-clause-line : goal.returns-in-Some-clause-line
returns-in-Some-clause-line g c told =
    rw c.in-Some.is (
      c.as_slice.result.now,
      c.as_slice.ensures.value,
      given_or_front c.give_all.result (g.F.Outlet.held c.args.faults.now) (g.F.Outlet.held c.give_all.new.outlet) c.as_slice.result.now (c.give_all.ensures.bytes told),
    )

pub returns-in-None-clause-line : goal.returns-in-None-clause-line
returns-in-None-clause-line g c told = rw c.in-None.is (c.tell_object.ensures.line told)
