use Rattle.std.proofs.Common.{string_bytes}
use Rattle.dsedge_faults.proofs.FrontLemmas.{given_as, given_or_front}
use Rattle.dsedge_faults.proofs.advising.tell_explained.Goals as goal

pub returns-in-Form-clause-line : goal.returns-in-Form-clause-line
returns-in-Form-clause-line g c told =
    rw c.in-Form.is (given_as c.give_all.result (g.F.Outlet.held c.args.faults.now) (g.F.Outlet.held c.give_all.new.outlet) c.as_bytes.result.now (string_bytes c.in-Form.text) c.as_bytes.ensures.value
    (given_or_front c.give_all.result (g.F.Outlet.held c.args.faults.now) (g.F.Outlet.held c.give_all.new.outlet) c.as_bytes.result.now (c.give_all.ensures.bytes told)))

pub returns-in-Workers-clause-line : goal.returns-in-Workers-clause-line
returns-in-Workers-clause-line g c told = rw c.in-Workers.is (c.tell_value.ensures.line told)

pub returns-in-Value-clause-line : goal.returns-in-Value-clause-line
returns-in-Value-clause-line g c told = rw c.in-Value.is (c.tell_value-in-Value.ensures.line told)
