use Rattle.std.proofs.Common.{◌≡◌, ◌-◌}
use Rattle.std.specs.List.{range_with_len}
use Rattle.meter_fabric_base.specs.Openings.{site_count}
use Rattle.run_audit.specs.Verdicts.{first_found}
use Rattle.ds_runs.specs.Judging.{late_told}
use Rattle.ds_runs.proofs.judge.first_late.Given as goal

-- what is left is as the whole
abbrev pub invariant-loop-site : goal.invariant-loop-site
invariant-loop-site l =
    first_found (late_told l.accepted l.firsts) (range_with_len l.site (site_count l.accepted - l.site)) ≡ first_found (late_told l.accepted l.firsts) (range_with_len 0 (site_count l.accepted))
