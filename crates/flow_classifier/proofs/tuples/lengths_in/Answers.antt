use Rattle.std.proofs.Common.{arith}
use Rattle.flow_classifier.proofs.tuples.lengths_in.Goals as goal

pub returns : goal.returns
returns c = λ k d within. c.loop-row.invariant k d (omega (arith, within))
