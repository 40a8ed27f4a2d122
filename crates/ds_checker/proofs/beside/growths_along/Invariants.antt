use Rattle.std.proofs.Common.{◌≡◌, ◌+◌, ◌-◌, ◌*◌, ◌^◌, ◌++◌, drop, replicate, take}
use Rattle.ds_domain_base.specs.Routes.{jitters_in}
use Rattle.ds_certificate.specs.Bounds.{entering, least_behind}
use Rattle.ds_certificate.specs.Ranges.{IsWithin}
use Rattle.ds_checker.specs.Growths.{growths_on, no_growth}
use Rattle.ds_checker.proofs.beside.growths_along.Given as goal

-- what was found so far, and what is found on the legs that are left, by the bounds behind the last one; the other places
-- hold nothing yet
abbrev pub invariant-loop-number : goal.invariant-loop-number
invariant-loop-number l =
    let legs = drop l.number l.legs in
    let meters = l.domain.meters in
    record {
      value : take l.number l.growths ++ growths_on meters l.source l.peaked legs (drop l.number l.sums) (least_behind l.source (jitters_in legs) l.reached)
          ≡ growths_on meters l.source l.peaked l.legs l.sums (least_behind l.source (jitters_in l.legs) (entering l.source));
      rest : drop l.number l.growths ≡ replicate (16 - l.number) no_growth;
      range : IsWithin (5 * 10 ^ 13 + 25 * 10 ^ 12 * l.number) l.reached;
    }
