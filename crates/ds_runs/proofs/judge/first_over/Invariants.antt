use Rattle.std.proofs.Common.{◌≡◌, ◌-◌}
use Rattle.std.specs.List.{range_with_len}
use Rattle.meter_fabric_base.specs.Grounds.{flow_count}
use Rattle.run_audit.specs.Verdicts.{first_found}
use Rattle.ds_runs.specs.Judging.{told_at}
use Rattle.ds_runs.proofs.judge.first_over.Given as goal

-- what is left is as the whole
abbrev pub invariant-loop-flow : goal.invariant-loop-flow
invariant-loop-flow l =
    first_found (told_at l.senders) (range_with_len l.flow (flow_count l.accepted - l.flow)) ≡ first_found (told_at l.senders) (range_with_len 0 (flow_count l.accepted))
