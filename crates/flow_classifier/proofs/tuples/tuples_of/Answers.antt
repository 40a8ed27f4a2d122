use Rattle.std.proofs.Common.{List, map, subst, sym, ap, ◌∙◌}
use Rattle.std.specs.Prelude.{All}
use Rattle.flow_classifier.specs.Tuples.{IsTupleOf}
use Rattle.flow_classifier.specs.declared.tuples.Tuple.{Tuple}
use Rattle.flow_classifier.proofs.TupleLaws.{tuples_more}
use Rattle.flow_classifier.proofs.tuples.tuples_of.Goals as goal

pub loop-one-preserved : goal.loop-one-preserved
loop-one-preserved c =
    let more = tuples_more c.args.rules.now c.loop-one.tuples.items c.args.lengths.now c.loop-one.one-index c.in_ok-tuple.tuple (record { source = 0; target = 0 })
    c.loop-one-test.true c.loop-one.invariant.each c.loop-one.invariant.same c.in_ok-tuple.ensures.tuple c.in_ok-tuple.ensures.lengths in
    record {
      each = subst (λ (ts : List Tuple). All (λ u. IsTupleOf c.args.rules.now u) ts) (sym c.in_ok-push.ensures.items) more.0;
      same = ap (λ (ts : List Tuple). map (λ u. u.lengths) ts) c.in_ok-push.ensures.items ∙ more.1;
    }
