use Rattle.std.proofs.Common.{arith, refl, rules}
use Rattle.meter_fabric_base.proofs.WayLaws.{legs_placed, site_more}
use Rattle.meter_fabric_base.proofs.way.with_legs.Goals as goal

pub loop-leg-preserved : goal.loop-leg-preserved
loop-leg-preserved c = record {
  placed = omega arith;
  long = search rules;
  value = site_more c.loop-leg.all _ _ c.loop-leg.place c.loop-leg.leg-index c.leg-item.result.place c.leg-item.result c.args.legs.now
      (omega (arith, c.loop-leg.invariant.placed, c.loop-leg.invariant.long, c.loop-leg-test.true, c.requires.room)) c.loop-leg-test.true c.leg-item.is refl refl c.loop-leg.invariant.value;
}

pub returns : goal.returns
returns c = legs_placed c.loop-leg.all _ c.loop-leg.place c.args.from c.loop-leg.leg-index c.args.legs.now (omega arith) (omega arith) c.loop-leg.invariant.value
