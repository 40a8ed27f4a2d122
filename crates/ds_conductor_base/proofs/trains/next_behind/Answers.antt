use Rattle.std.proofs.Common.{refl, arith}
use Rattle.std.proofs.lemmas.List.Sorted.{IsPermutation-refl}
use Rattle.ds_conductor_base.specs.Trains.{rows_in}
use Rattle.ds_conductor_base.proofs.TrainLaws.{rows_taken, trains_other, trains_taken}
use Rattle.ds_conductor_base.proofs.trains.next_behind.Goals as goal

pub returns-then-place-len : goal.returns-then-place-len
returns-then-place-len c = record {
  rows = IsPermutation-refl (rows_in c.args.trains.now.items);
  behind = λ heap are. trains_other heap c.args.visit.now c.args.trains.now.items (omega arith) are;
}

pub returns : goal.returns
returns c = record {
  rows = rows_taken c.args.trains.now.items c.args.visit.now.0.train c.index_mut.result.now c.take.new.self c.take.result (omega arith) c.index_mut.ensures.value c.take.ensures.visits;
  behind = λ heap are. trains_taken heap c.args.visit.now c.take.result c.args.trains.now.items c.args.visit.now.0.train c.index_mut.result.now c.take.new.self (omega arith)
      c.index_mut.ensures.value refl c.take.ensures.visits c.take.ensures.last c.take.ensures.none are;
}
