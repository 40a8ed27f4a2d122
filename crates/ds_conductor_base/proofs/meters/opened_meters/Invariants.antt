use Rattle.std.proofs.Common.{◌≡◌, map}
use Rattle.std.specs.List.{range_with_len}
use Rattle.ds_conductor_base.specs.Passing.{meter_at}
use Rattle.ds_conductor_base.proofs.meters.opened_meters.Given as goal

-- the meters of the sites up to here
abbrev pub invariant-loop-site : goal.invariant-loop-site
invariant-loop-site l = l.meters.items ≡ map (meter_at l.accepted) (range_with_len 0 l.site)
