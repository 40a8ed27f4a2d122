use Rattle.ds_rounds.proofs.CutLaws.{cut_further, cut_whole, none_left}
use Rattle.ds_rounds.proofs.cutting.rounds.Goals as goal

pub loop-rest-preserved : goal.loop-rest-preserved
loop-rest-preserved c =
    cut_further c.args.skew c.args.visits.now c.loop-rest.lengths.items c.loop-rest.rest.now c.in_ok-length.length c.push.new.self.items c.split_at.result.1.now
    c.loop-rest.invariant c.in_ok-length.ensures c.in_ok-push.ensures.items c.split_at.ensures.back

pub returns : goal.returns
returns c =
    cut_whole c.args.skew c.args.visits.now c.loop-rest.lengths.items c.loop-rest.rest.now c.loop-rest.invariant (none_left c.loop-rest.rest.now c.is_empty.result c.is_empty.ensures c.loop-rest-test.false)
