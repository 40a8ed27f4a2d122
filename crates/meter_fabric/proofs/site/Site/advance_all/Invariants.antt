use Rattle.std.proofs.Common.{◌≡◌, ◌+◌, take, drop, count_by, is_none, slice_index, slice_set}
use Rattle.std.specs.List.{AllZip}
use Rattle.meter_fabric.specs.Visits.{IsAnswered}
use Rattle.meter_fabric.proofs.site.Site.advance_all.Given as goal

-- those so far are answered, and those that are left as they were
abbrev pub invariant-loop-visit : goal.invariant-loop-visit
invariant-loop-visit g l = record {
  answered : AllZip (IsAnswered g.L.FabricLedger.fabric) (take l.visit-index l.initial.visits) (take l.visit-index l.visits);
  number : l.self.number ≡ l.initial.self.number;
  left : drop l.visit-index l.visits ≡ drop l.visit-index l.initial.visits;
  counted : l.pass ≡ slice_set l.initial.pass l.initial.self.number (slice_index l.initial.pass l.initial.self.number + count_by (λ visit. is_none visit.fault) (take l.visit-index l.visits));
}
