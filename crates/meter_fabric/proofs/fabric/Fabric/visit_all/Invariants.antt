use Rattle.std.proofs.Common.{◌≡◌, take, drop, count_by, is_none}
use Rattle.std.specs.List.{AllZip}
use Rattle.meter_fabric.specs.Visits.{IsAnswered}
use Rattle.meter_fabric.proofs.fabric.Fabric.visit_all.Given as goal

-- those so far are answered, none is made, and those that are left are as they were
abbrev pub invariant-loop-visit : goal.invariant-loop-visit
invariant-loop-visit g l = record {
  answered : AllZip (IsAnswered l.self) (take l.visit-index l.initial.visits) (take l.visit-index l.visits);
  left : drop l.visit-index l.visits ≡ drop l.visit-index l.initial.visits;
  none : count_by (λ visit. is_none visit.fault) (take l.visit-index l.visits) ≡ 0;
}
