use Rattle.std.proofs.Common.{refl, arith, ◌∙◌}
use Rattle.ds_conditioner.proofs.HandingLaws.{added_on, none_added}
use Rattle.ds_conditioner.proofs.QueueLaws.{some_by}
use Rattle.ds_conditioner.proofs.passing.hand_out_all.Goals as goal

pub loop-stretch-init : goal.loop-stretch-init
loop-stretch-init c = record {
  bounded = c.requires.bounded;
  there = c.requires.there;
  next = c.requires.next;
  records = refl;
  still = λ up. up;
  fewer = omega arith;
  handed = none_added c.args.port.now c.args.conditioner.now c.args.stretch.now.text;
}

pub loop-stretch-preserved : goal.loop-stretch-preserved
loop-stretch-preserved c =
    let was = c.loop-stretch.invariant in
    record {
      bounded = c.hand_out_to.ensures.bounded;
      there = some_by _ _ c.is_over.ensures c.if-is_over.false;
      next = c.hand_out_to.ensures.next;
      records = c.hand_out_to.ensures.records ∙ was.records;
      still = λ up. c.hand_out_to.ensures.still (was.still up);
      fewer = omega (arith, was.fewer, c.loop-stretch-test.ensures.one);
      handed = added_on c.args.port.now c.args.conditioner.now c.loop-stretch.conditioner c.hand_out_to.new.self c.args.stretch.now.text c.loop-stretch.stretch.text c.hand_out_to.new.stretch.text
          was.handed c.hand_out_to.ensures.handed;
    }

pub returns-then-is_over-clause-handed : goal.returns-then-is_over-clause-handed
returns-then-is_over-clause-handed c =
    added_on c.args.port.now c.args.conditioner.now c.loop-stretch.conditioner c.hand_out_to.new.self c.args.stretch.now.text c.loop-stretch.stretch.text c.hand_out_to.new.stretch.text
    c.loop-stretch.invariant.handed c.hand_out_to.ensures.handed

pub returns-clause-handed : goal.returns-clause-handed
returns-clause-handed c =
    added_on c.args.port.now c.args.conditioner.now c.loop-stretch.conditioner c.hand_out_to.new.self c.args.stretch.now.text c.loop-stretch.stretch.text c.hand_out_to.new.stretch.text
    c.loop-stretch.invariant.handed c.hand_out_to.ensures.handed
