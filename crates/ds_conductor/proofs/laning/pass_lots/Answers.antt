use Rattle.std.proofs.Common.{refl, ◌∷◌, [], ◌++◌, ◌∙◌, ap}
use Rattle.ds_conductor.proofs.LaningLaws.{passed_end, passed_more, passed_none}
use Rattle.ds_conductor.proofs.laning.pass_lots.Goals as goal

pub loop-init : goal.loop-init
loop-init g c = record {
  next = tt;
  finite = tt;
  bounded = c.requires.bounded;
  from = refl;
  to = refl;
  passed = passed_none c.args.shift.now.port.now c.args.conditioner.now _ _ c.requires.fresh.0 c.requires.fresh.1;
}

pub loop-preserved : goal.loop-preserved
loop-preserved g c =
    let was = c.loop.invariant in record {
      next = tt;
      finite = tt;
      bounded = c.handed_of_lot-handed.ensures.bounded;
      from = c.receive.ensures.lane ∙ was.from;
      to = c.send.ensures.lane ∙ was.to;
      passed = passed_more c.args.shift.now.port.now c.args.conditioner.now c.loop.conditioner _ c.loop.between.from.taken _ c.loop.between.to.put _ c.in-Some-receive.lot c.handed_of_lot-handed.result.0 c.loop.starved c.handed_of_lot-handed.result.1
          was.passed c.handed_of_lot-handed.ensures.passed (c.receive.ensures.taken ∙ ap (λ item. c.loop.between.from.taken ++ item ∷ []) c.in-Some-receive.is) c.send.ensures.put;
    }

pub returns-in-None-receive-clause-passed : goal.returns-in-None-receive-clause-passed
returns-in-None-receive-clause-passed g c =
    passed_end c.args.shift.now.port.now c.args.conditioner.now c.loop.conditioner c.loop.between.from.taken _ c.loop.between.to.put c.loop.starved c.loop.invariant.passed
    (c.receive.ensures.taken ∙ ap (λ item. c.loop.between.from.taken ++ item ∷ []) c.in-None-receive.is)
