use Rattle.std.proofs.Common.{◌++◌, ◌∷◌, []}
use Rattle.ds_conductor_base.proofs.TrainLaws.{kept_more, not_err}
use Rattle.ds_conductor_base.proofs.trains.make_trains.Goals as goal

pub loop-preserved : goal.loop-preserved
loop-preserved c =
    let trains = c.loop.trains.items in
    kept_more c.args.trains.now.items trains c.push.new.self.items c.new.result c.new.ensures.visits c.new.ensures.last
    (not_err c.push.result c.is_err-in-loop.result (trains ++ c.new.result ∷ []) trains c.push.new.self.items c.if-is_err-2.false c.is_err-in-loop.ensures.value c.push.ensures.items)
    c.loop.invariant
