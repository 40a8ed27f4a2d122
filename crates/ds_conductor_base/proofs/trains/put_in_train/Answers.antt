use Rattle.std.proofs.Common.{refl, arith}
use Rattle.ds_conductor_base.proofs.TrainLaws.{told_put, trains_with}
use Rattle.ds_conductor_base.proofs.trains.put_in_train.Goals as goal

pub returns-then-place-len : goal.returns-then-place-len
returns-then-place-len c = (refl, (λ heap are. trains_with heap c.args.visit.now c.args.trains.now.items are))

pub returns : goal.returns
returns c =
    told_put c.args.visit.now c.args.trains.now.items c.args.visit.now.0.train c.index_mut.result.now c.put.new.self (omega arith)
    c.index_mut.ensures.value refl c.put.result c.put.ensures
