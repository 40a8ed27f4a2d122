use Rattle.std.proofs.Common.{arith}
use Rattle.ds_conductor_base.proofs.RunLaws.{put_more}
use Rattle.ds_conductor_base.proofs.trains.Trains.hold_all.Goals as goal

pub loop-visit-preserved : goal.loop-visit-preserved
loop-visit-preserved c = record {
  room = omega (arith, c.hold.ensures.room);
  same = put_more c.args.self.now.rows c.loop-visit.self.rows c.hold.new.self.rows c.args.visits.now c.loop-visit.visit-index c.visit-item.result c.loop-visit-test.true c.visit-item.is
      c.loop-visit.invariant.same c.hold.ensures.same;
}
