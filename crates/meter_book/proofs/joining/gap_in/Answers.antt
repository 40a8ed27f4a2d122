use Rattle.std.proofs.Common.{refl, arith}
use Rattle.std.proofs.lemmas.Bool.{false≢true}
use Rattle.meter_book.proofs.StandingLaws.{follows_all, follows_next, gap_here}
use Rattle.meter_book.proofs.joining.gap_in.Goals as goal

pub returns-then-not-goes_on : goal.returns-then-not-goes_on
returns-then-not-goes_on c = (
  c.loop-index.invariant.1,
  gap_here c.args.chapters.now c.loop-index.index c.index-chapters-index.result c.index-chapters-index-in-loop-index.result
      c.loop-index.invariant.0 c.loop-index-test.true c.index-chapters-index.is c.index-chapters-index-in-loop-index.is
      (λ on. false≢true (c.if-not-goes_on.ensures.1 on)),
)

pub loop-index-preserved : goal.loop-index-preserved
loop-index-preserved c = (
  omega arith,
  follows_next c.args.chapters.now c.loop-index.index c.index-chapters-index.result c.index-chapters-index-in-loop-index.result
      c.loop-index.invariant.0 c.loop-index-test.true c.index-chapters-index.is c.index-chapters-index-in-loop-index.is
      (c.if-not-goes_on.ensures.0 refl) c.loop-index.invariant.1,
)

pub returns : goal.returns
returns c index = follows_all c.args.chapters.now c.loop-index.index index c.loop-index.invariant.0 c.loop-index-test.false c.loop-index.invariant.1
