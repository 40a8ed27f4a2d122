use Rattle.std.proofs.Common.{None, ◌+◌, ◌∷◌, ap, refl, sym, ◌∙◌}
use Rattle.ds_domain_base.specs.Routes.{jitters_in}
use Rattle.std.specs.Iterator.Adapters.{enumerate_count, enumerate_source, zip_first}
use Rattle.std.specs.Slice.Iter.{iter_rest}
use Rattle.std.proofs.lemmas.Slice.Zip.{Zip-more, either_empty_from_Zip}
use Rattle.ds_checker.proofs.BoundLaws.{found, hops-ended, hops-step, not_found}
use Rattle.ds_checker.proofs.bounds.hops_refusal.Goals as goal

pub returns-then-is_some : goal.returns-then-is_some
returns-then-is_some c =
    let s = c.loop-index.index-iterator in
    let t = c.next.new.self in
    let steps = c.in-Some.ensures.steps in
    let refusal = c.hop_refusal-refusal.result in
    let moved = Zip-more (enumerate_source s) (enumerate_source t) _ (c.in-Some.leg, c.in-Some.bound) refl steps.0 in
    let step = hops-step c.args.number c.args.source.now _ _ c.gap.result c.loop-index.before c.in-Some.bound.now _ _ (enumerate_count s) c.in-Some.index (enumerate_count t) refusal
    (ap jitters_in moved.0 ∙ ap (λ jitter. jitter ∷ jitters_in (iter_rest (zip_first (enumerate_source t)))) (sym c.gap.ensures.value)) moved.1 steps.1 steps.2 c.hop_refusal-refusal.ensures in
    found refusal _ _ (sym c.is_some.ensures ∙ c.if-is_some.true) (sym step ∙ c.loop-index.invariant)

pub loop-index-preserved : goal.loop-index-preserved
loop-index-preserved c =
    let s = c.loop-index.index-iterator in
    let t = c.next.new.self in
    let steps = c.in-Some.ensures.steps in
    let refusal = c.hop_refusal-refusal.result in
    let moved = Zip-more (enumerate_source s) (enumerate_source t) _ (c.in-Some.leg, c.in-Some.bound) refl steps.0 in
    let step = hops-step c.args.number c.args.source.now _ _ c.gap.result c.loop-index.before c.in-Some.bound.now _ _ (enumerate_count s) c.in-Some.index (enumerate_count t) refusal
    (ap jitters_in moved.0 ∙ ap (λ jitter. jitter ∷ jitters_in (iter_rest (zip_first (enumerate_source t)))) (sym c.gap.ensures.value)) moved.1 steps.1 steps.2 c.hop_refusal-refusal.ensures in
    not_found refusal _ _ (sym c.is_some.ensures ∙ c.if-is_some.false) (sym step ∙ c.loop-index.invariant)

pub returns : goal.returns
returns c =
    let s = c.loop-index.index-iterator in
    let ended = either_empty_from_Zip (enumerate_source s) (enumerate_source c.next.new.self) None refl c.in-None.ensures.steps.0 in
    sym (hops-ended c.args.number (enumerate_count s + 1) c.args.source.now _ c.loop-index.before _ ended) ∙ c.loop-index.invariant
