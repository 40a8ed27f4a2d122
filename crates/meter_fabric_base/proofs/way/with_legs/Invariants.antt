use Rattle.std.proofs.Common.{◌≡◌, ◌+◌, ◌++◌, drop, length, take}
use Rattle.ds_domain_base.specs.Routes.{places_of}
use Rattle.meter_fabric_base.proofs.way.with_legs.Given as goal

-- the sites so far, and those of the legs that are left
abbrev pub invariant-loop-leg : goal.invariant-loop-leg
invariant-loop-leg l = record {
  placed : l.place ≡ l.from + l.leg-index;
  long : length l.all ≡ 17;
  value : take l.place l.all ++ places_of (drop l.leg-index l.legs) ≡ take l.from l.fn.sites ++ places_of l.legs;
}
