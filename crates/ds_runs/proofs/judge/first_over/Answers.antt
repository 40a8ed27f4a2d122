use Rattle.std.proofs.Common.{◌<◌, ◌≤◌, arith}
use Rattle.meter_fabric_base.specs.Grounds.{flow_count}
use Rattle.ds_runs.specs.Judging.{told_at}
use Rattle.ds_runs.proofs.PairLaws.{left_behind, left_here, left_none}
use Rattle.ds_runs.proofs.judge.first_over.Goals as goal

pub returns-then-is_some : goal.returns-then-is_some
returns-then-is_some c =
    let inside : c.loop-flow.flow < flow_count c.args.accepted.now = omega (arith, c.loop-flow-test.true, c.flow_count-flow-end.ensures.value) in
    left_here (told_at c.args.senders.now) c.loop-flow.flow (flow_count c.args.accepted.now) c.told_at-found.result _ c.is_some.result inside c.told_at-found.ensures c.is_some.ensures
    c.if-is_some.true c.loop-flow.invariant

pub loop-flow-preserved : goal.loop-flow-preserved
loop-flow-preserved c =
    let inside : c.loop-flow.flow < flow_count c.args.accepted.now = omega (arith, c.loop-flow-test.true, c.flow_count-flow-end.ensures.value) in
    left_behind (told_at c.args.senders.now) c.loop-flow.flow (flow_count c.args.accepted.now) c.told_at-found.result _ c.is_some.result inside c.told_at-found.ensures c.is_some.ensures
    c.if-is_some.false c.loop-flow.invariant

pub returns : goal.returns
returns c =
    let ended : flow_count c.args.accepted.now ≤ c.loop-flow.flow = omega (arith, c.loop-flow-test.false, c.flow_count-flow-end.ensures.value) in
    left_none (told_at c.args.senders.now) c.loop-flow.flow (flow_count c.args.accepted.now) _ ended c.loop-flow.invariant
