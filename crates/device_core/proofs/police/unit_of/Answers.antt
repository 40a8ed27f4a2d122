use Rattle.std.proofs.Common.{arith, ◌∙◌, sym}
use Rattle.device_core.proofs.UnitLaws.{unit-doubled, unit-last, unit-reached, unit-room}
use Rattle.device_core.proofs.police.unit_of.Goals as goal

pub loop-left-preserved : goal.loop-left-preserved
loop-left-preserved c = record {
  unit = unit-doubled c.loop-left.left c.args.rate c.loop-left.unit (omega (arith, c.loop-left-test.true)) (omega (arith, c.if-unit-rate.true)) ∙ c.loop-left.invariant.unit;
  room = unit-room c.loop-left.left c.loop-left.unit 17179869184 (omega (arith, c.loop-left-test.true)) c.loop-left.invariant.room;
}

pub returns-else-unit-rate-clause-value : goal.returns-else-unit-rate-clause-value
returns-else-unit-rate-clause-value c =
    sym (unit-reached c.loop-left.left c.args.rate c.loop-left.unit (omega (arith, c.if-unit-rate.false))) ∙ c.loop-left.invariant.unit

pub returns-after-loop-left-clause-value : goal.returns-after-loop-left-clause-value
returns-after-loop-left-clause-value c =
    sym (unit-last c.loop-left.left c.args.rate c.loop-left.unit (omega (arith, c.loop-left-test.false))) ∙ c.loop-left.invariant.unit
