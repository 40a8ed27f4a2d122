use Rattle.std.proofs.Common.{sym, ◌∙◌, arith, get_or}
use Rattle.std.proofs.lemmas.Bool.{false≢true}
use Rattle.ds_rounds.specs.Rounds.{GoesOn}
use Rattle.ds_rounds.proofs.RoundLaws.{one_more, packets_more, some_there, went_on_there}
use Rattle.ds_rounds.proofs.cutting.first_round.Goals as goal

pub returns-then-not-branch : goal.returns-then-not-branch
returns-then-not-branch c =
    let visits = c.args.visits.now in
    let i = c.loop-place.place in
    let d = c.index-visits-0.result in
    let v = c.index-visits-place.result in
    let keys = c.loop-place.packets.keys in
    let stops = λ (goes : GoesOn c.args.skew (get_or visits 0 d).moment keys v). false≢true (sym c.if-not-branch.true ∙ c.in_ok-goes_on.ensures.goes_on.1 goes) in
    record {
      some = some_there c.args.skew visits i d v keys c.loop-place-test.true c.index-visits-place.is c.loop-place.invariant.packets stops;
      there = omega arith;
      round = c.loop-place.invariant.round;
      whole = λ more is. stops (went_on_there c.args.skew visits i d v keys c.loop-place-test.true c.index-visits-place.is c.loop-place.invariant.packets is);
    }

pub loop-place-preserved : goal.loop-place-preserved
loop-place-preserved c =
    let visits = c.args.visits.now in
    let i = c.loop-place.place in
    let d = c.index-visits-0.result in
    let v = c.index-visits-place.result in
    let keys = c.loop-place.packets.keys in
    record {
      round = one_more c.args.skew visits i d v keys c.loop-place-test.true c.index-visits-place.is c.loop-place.invariant.packets c.loop-place.invariant.round
          (c.in_ok-goes_on.ensures.goes_on.0 c.if-not-branch.false);
      packets = packets_more visits i v keys c.goes_on.new.packets.keys c.loop-place-test.true c.index-visits-place.is c.loop-place.invariant.packets
          (c.in_ok-goes_on.ensures.packets c.if-not-branch.false);
    }
