use Rattle.ds_conductor.proofs.LaningLaws.{along_lane}
use Rattle.ds_conductor.proofs.RunLaws.{answered}
use Rattle.ds_conductor.proofs.run.run_by_two.Goals as goal

pub returns : goal.returns
returns g c =
    let p = c.args.passage.now.port in
    let done = c.pass_and_feed-starved.ensures in
    let ends = c.pass_and_feed-starved.new.lanes in
    answered _ _ _ _ _ _ _ _ _ _ _ c.args.passage.now c.pass_and_feed-starved.new.progress c.pass_and_feed-starved.new.conditioner _ ends c.pass_and_feed-starved.result _ c.of.result
    (rw c.new-own.ensures at done) (along_lane p _ _ _ c.reunite-lots.ensures) c.reunite-handed.ensures c.of.ensures.none c.of.ensures.ran
