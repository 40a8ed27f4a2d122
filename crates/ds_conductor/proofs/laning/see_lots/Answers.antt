use Rattle.std.proofs.Common.{refl, ◌∷◌, [], ◌++◌, ◌∙◌, ap}
use Rattle.ds_conductor.proofs.LaningLaws.{along_end, along_more, along_none}
use Rattle.ds_conductor.proofs.laning.see_lots.Goals as goal

pub loop-init : goal.loop-init
loop-init g c = record {
  next = tt;
  finite = tt;
  from = refl;
  to = refl;
  along = along_none c.args.shift.now.port.now _ _ c.requires.fresh.0 c.requires.fresh.1;
}

pub loop-preserved : goal.loop-preserved
loop-preserved g c =
    let was = c.loop.invariant in record {
      next = tt;
      finite = tt;
      from = c.receive.ensures.lane ∙ was.from;
      to = c.send.ensures.lane ∙ was.to;
      along = along_more c.args.shift.now.port.now c.loop.between.from.taken c.loop.between.to.put _ _ c.in-Some-receive.lot c.seen_in_turn-seen.result was.along c.seen_in_turn-seen.ensures.frames c.seen_in_turn-seen.ensures.seen
          (c.receive.ensures.taken ∙ ap (λ item. c.loop.between.from.taken ++ item ∷ []) c.in-Some-receive.is) c.send.ensures.put;
    }

pub returns-in-None-receive-clause-along : goal.returns-in-None-receive-clause-along
returns-in-None-receive-clause-along g c =
    let was = c.loop.invariant in
    along_end c.args.shift.now.port.now c.loop.between.from.taken c.loop.between.to.put _ _ was.along
    (c.receive.ensures.taken ∙ ap (λ item. c.loop.between.from.taken ++ item ∷ []) c.in-None-receive.is) c.send-in-None-receive.ensures.put
