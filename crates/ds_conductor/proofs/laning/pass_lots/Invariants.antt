use Rattle.std.proofs.Common.{◌≡◌}
use Rattle.ds_conditioner.specs.Conditionings.{IsBounded}
use Rattle.ds_conductor.specs.Lanings.{AreLotsPassed}
use Rattle.ds_conductor.proofs.laning.pass_lots.Given as goal

-- the lots so far are taken in
abbrev pub invariant-loop : goal.invariant-loop
invariant-loop g l = record {
  next : (goal.iterator-loop g).can_next l.iterator';
  finite : (goal.iterator-loop g).is_finite l.iterator';
  bounded : IsBounded l.conditioner;
  from : l.between.from.lane ≡ l.fn.between.from.lane;
  to : l.between.to.lane ≡ l.fn.between.to.lane;
  passed : AreLotsPassed l.starved l.shift.port.now l.fn.conditioner l.conditioner l.between.from.taken l.between.to.put;
}
