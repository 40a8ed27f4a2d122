use Rattle.std.proofs.Common.{codes, refl}
use Rattle.dsedge_faults.proofs.FrontLemmas.{given_or_front}
use Rattle.dsedge_faults.proofs.advising.tell_reason.Goals as goal

pub returns-in-Absent-clause-line : goal.returns-in-Absent-clause-line
returns-in-Absent-clause-line g c told =
    rw c.in-Absent.is (codes "there is no such file\n", refl, given_or_front c.give_all.result (g.F.Outlet.held c.args.faults.now) (g.F.Outlet.held c.give_all.new.outlet) _ (c.give_all.ensures.bytes told))

pub returns-in-Failed-clause-line : goal.returns-in-Failed-clause-line
returns-in-Failed-clause-line g c told =
    rw c.in-Failed.is (codes "it failed while it was read\n", refl, given_or_front c.give_all-in-Failed.result (g.F.Outlet.held c.args.faults.now) (g.F.Outlet.held c.give_all-in-Failed.new.outlet) _ (c.give_all-in-Failed.ensures.bytes told))

pub returns-in-TooLong-clause-line : goal.returns-in-TooLong-clause-line
returns-in-TooLong-clause-line g c told =
    rw c.in-TooLong.is (codes "it has more than 16 MiB\n", refl, given_or_front c.give_all-in-TooLong.result (g.F.Outlet.held c.args.faults.now) (g.F.Outlet.held c.give_all-in-TooLong.new.outlet) _ (c.give_all-in-TooLong.ensures.bytes told))
