use Rattle.std.proofs.Common.{◌<◌, ◌≤◌, arith}
use Rattle.meter_fabric_base.specs.Openings.{site_count}
use Rattle.ds_runs.specs.Judging.{late_told}
use Rattle.ds_runs.proofs.PairLaws.{left_behind, left_here, left_none}
use Rattle.ds_runs.proofs.judge.first_late.Goals as goal

pub returns-then-is_some : goal.returns-then-is_some
returns-then-is_some c =
    let inside : c.loop-site.site < site_count c.args.accepted.now = omega (arith, c.loop-site-test.true, c.site_count-site-end.ensures.value) in
    left_here (late_told c.args.accepted.now c.args.firsts.now) c.loop-site.site (site_count c.args.accepted.now) c.late_told-found.result _ c.is_some.result inside c.late_told-found.ensures c.is_some.ensures
    c.if-is_some.true c.loop-site.invariant

pub loop-site-preserved : goal.loop-site-preserved
loop-site-preserved c =
    let inside : c.loop-site.site < site_count c.args.accepted.now = omega (arith, c.loop-site-test.true, c.site_count-site-end.ensures.value) in
    left_behind (late_told c.args.accepted.now c.args.firsts.now) c.loop-site.site (site_count c.args.accepted.now) c.late_told-found.result _ c.is_some.result inside c.late_told-found.ensures c.is_some.ensures
    c.if-is_some.false c.loop-site.invariant

pub returns : goal.returns
returns c =
    let ended : site_count c.args.accepted.now ≤ c.loop-site.site = omega (arith, c.loop-site-test.false, c.site_count-site-end.ensures.value) in
    left_none (late_told c.args.accepted.now c.args.firsts.now) c.loop-site.site (site_count c.args.accepted.now) _ ended c.loop-site.invariant
