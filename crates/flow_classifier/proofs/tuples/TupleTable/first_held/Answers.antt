use Rattle.std.proofs.Common.{◌≡◌, ◌<◌, ◌≤◌, List, length, get_or, ap, subst, ◌∙◌, arith}
use Rattle.std.specs.Prelude.{slice_get}
use Rattle.flow_classifier.specs.Tuples.{IsHeldAt}
use Rattle.flow_classifier.specs.declared.table.FlowRule.{FlowRule}
use Rattle.flow_classifier.specs.declared.tuples.Tuple.{Tuple}
use Rattle.flow_classifier.proofs.TupleLaws.{none_in_all, none_in_more, still_held, tuple_at}
use Rattle.flow_classifier.proofs.tuples.TupleTable.first_held.Goals as goal

pub first_held-first-requires : goal.first_held-first-requires
first_held-first-requires c =
    tuple_at c.self.inside.rules.items c.deref.result.now c.self.inside.tuples.items c.deref-tuple-items.result.now c.loop-tuple.tuple-index c.tuple-item.result
    c.self.invariant.1.each c.deref.ensures.value c.deref-tuple-items.ensures.value c.loop-tuple-test.true c.tuple-item.is

pub loop-tuple-preserved : goal.loop-tuple-preserved
loop-tuple-preserved c =
    let rules = c.self.inside.rules.items in
    let tuples = c.self.inside.tuples.items in
    let found = c.first_held-first.result in
    let inside : c.loop-tuple.tuple-index < length tuples = subst (λ (ts : List Tuple). c.loop-tuple.tuple-index < length ts) c.deref-tuple-items.ensures.value c.loop-tuple-test.true in
    let at : c.tuple-item.result ≡ get_or tuples c.loop-tuple.tuple-index c.tuple-item.result =
    c.tuple-item.is ∙ ap (λ (ts : List Tuple). get_or ts c.loop-tuple.tuple-index c.tuple-item.result) c.deref-tuple-items.ensures.value in
    let here = subst (λ (rs : List FlowRule). found < c.loop-tuple.first → IsHeldAt rs c.args.key.now found) c.deref.ensures.value c.first_held-first.ensures.held in
    let seen : slice_get c.deref.result.now ≡ slice_get rules = ap (λ (rs : List FlowRule). slice_get rs) c.deref.ensures.value in
    record {
      within = omega (arith, c.first_held-first.ensures.at_most, c.loop-tuple.invariant.within);
      here = still_held rules c.args.key.now c.loop-tuple.first found c.first_held-first.ensures.at_most here c.loop-tuple.invariant.here;
      before =
          none_in_more tuples rules c.args.key.now c.loop-tuple.tuple-index c.loop-tuple.first found c.tuple-item.result inside at c.first_held-first.ensures.at_most
          (λ k row there. c.first_held-first.ensures.none k row (ap (λ (rs : List FlowRule). slice_get rs k) c.deref.ensures.value ∙ there)) c.loop-tuple.invariant.before;
    }

pub returns-clause-none : goal.returns-clause-none
returns-clause-none c = λ k row at.
    none_in_all c.self.inside.tuples.items c.self.inside.rules.items c.args.key.now c.loop-tuple.tuple-index c.loop-tuple.first
    (subst (λ (ts : List Tuple). length ts ≤ c.loop-tuple.tuple-index) c.deref-tuple-items.ensures.value c.loop-tuple-test.false) c.self.invariant.1 c.loop-tuple.invariant.before
    k row (ap (λ (rs : List FlowRule). slice_get rs k) c.self.view_is ∙ at)
