use Rattle.ds_conductor.proofs.LaningLaws.{along_both, along_lane}
use Rattle.ds_conductor.proofs.RunLaws.{answered}
use Rattle.ds_conductor.proofs.run.run_by_three.Goals as goal

pub returns : goal.returns
returns g c =
    let p = c.args.passage.now.port in
    let done = c.see_and_feed-starved.ensures in
    let ends = c.see_and_feed-starved.new.lanes.lanes in
    let first = along_lane p _ _ _ c.reunite-lots.ensures in
    let seen = along_both p _ _ _ first (rw c.new-own.ensures at done.seen.along) in
    answered _ _ _ _ _ _ _ _ _ _ _ c.args.passage.now c.see_and_feed-starved.new.progress c.see_and_feed-starved.new.conditioner _ ends c.see_and_feed-starved.result _ c.of.result
    (rw c.new-own.ensures at done.run) (along_both p _ _ _ seen (along_lane p _ _ _ c.reunite-seen.ensures)) c.reunite-handed.ensures c.of.ensures.none c.of.ensures.ran
