use Rattle.std.proofs.Common.{ap, ◌∙◌}
use Rattle.meter_fabric_base.specs.declared.hop.Hop.{Hop}
use Rattle.ds_conductor_base.specs.Visits.{later}
use Rattle.ds_runs.specs.Judging.{reached}
use Rattle.ds_runs.proofs.JudgeLaws.{along_ended, along_more}
use Rattle.ds_runs.proofs.judge.reach_along.Goals as goal

pub loop-stop-preserved : goal.loop-stop-preserved
loop-stop-preserved c =
    along_more c.loop-stop.firsts.items c.reach.new.firsts.items c.args.moment c.later.result c.loop-stop.stop-index c.stop-item.result c.args.stops.now _
    c.loop-stop-test.true c.stop-item.is (c.later.ensures ∙ ap (λ delay. later c.args.moment delay) c.delay.ensures)
    (c.reach.ensures ∙ ap (λ (h : Hop). reached c.loop-stop.firsts.items h.site c.later.result) c.hop.ensures) c.loop-stop.invariant

pub returns : goal.returns
returns c = along_ended c.loop-stop.firsts.items c.args.moment c.loop-stop.stop-index c.args.stops.now _ c.loop-stop-test.false c.loop-stop.invariant
