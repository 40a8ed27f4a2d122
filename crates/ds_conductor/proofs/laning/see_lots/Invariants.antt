use Rattle.std.proofs.Common.{◌≡◌}
use Rattle.ds_conductor.specs.Lanings.{IsAlong}
use Rattle.ds_conductor.proofs.laning.see_lots.Given as goal

-- what came is passed on
abbrev pub invariant-loop : goal.invariant-loop
invariant-loop g l = record {
  next : (goal.iterator-loop g).can_next l.iterator';
  finite : (goal.iterator-loop g).is_finite l.iterator';
  from : l.between.from.lane ≡ l.fn.between.from.lane;
  to : l.between.to.lane ≡ l.fn.between.to.lane;
  along : IsAlong l.shift.port.now l.between.from.taken l.between.to.put;
}
