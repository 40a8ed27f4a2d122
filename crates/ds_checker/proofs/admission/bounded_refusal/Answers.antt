use Rattle.std.proofs.Common.{ap, option_map, sym, ◌∷◌, ◌∙◌}
use Rattle.std.specs.Iterator.Adapters.{zip_first}
use Rattle.std.specs.Slice.Iter.{iter_rest}
use Rattle.std.proofs.lemmas.List.{get_or_default}
use Rattle.std.proofs.lemmas.Slice.Zip.{Zip-more, either_empty_from_Zip}
use Rattle.ds_checker.specs.Routed.{sums_on}
use Rattle.ds_checker.specs.Sums.{no_loads}
use Rattle.ds_checker.proofs.RoutedLaws.{inside-here}
use Rattle.ds_checker.proofs.WalkLaws.{bounded-ended, walk-hop}
use Rattle.ds_checker.proofs.admission.bounded_refusal.Goals as goal

pub loop-leg-preserved : goal.loop-leg-preserved
loop-leg-preserved c =
    let more = Zip-more c.loop-leg.leg-iterator c.next.new.self c.next.result _ c.in-Some.is c.next.ensures.steps in
    let inside = inside-here _ _ _ _ more.0 c.loop-leg.invariant.inside in
    let here = get_or_default c.args.sums.now c.in-Some.leg.now.place (no_loads 0) c.index-sums-leg.result inside.0 ∙ sym c.index-sums-leg.is in
    record {
      value = walk-hop c.args.domain.now.meters c.args.source.now c.args.has_peak _ _ c.in-Some.leg.now _ _ c.index-sums-leg.result c.with.result _ _ c.in-Some.bound.now
          c.place_refusal-refusal.result c.loop-leg.first c.earlier-first.result _ more.0
          (ap (λ legs. sums_on legs c.args.sums.now) more.0 ∙ ap (λ l. l ∷ sums_on (iter_rest (zip_first c.next.new.self)) c.args.sums.now) here) more.1 c.with.ensures.value c.place_refusal-refusal.ensures c.earlier-first.ensures
          c.loop-leg.invariant.value;
      inside = inside.1;
    }

pub returns-in_err-refusal : goal.returns-in_err-refusal
returns-in_err-refusal c =
    let ended = bounded-ended _ _ _ _ c.args.sums.now _ c.loop-leg.first _ (either_empty_from_Zip c.loop-leg.leg-iterator c.next.new.self c.next.result c.in-None.is c.next.ensures.steps)
    c.loop-leg.invariant.value in
    c.from_residual.ensures ∙ sym (ap (option_map (λ f. f.1)) c.in_err-refusal.was) ∙ ap (option_map (λ f. f.1)) ended

pub returns : goal.returns
returns c =
    let ended = bounded-ended _ _ _ _ c.args.sums.now _ c.loop-leg.first _ (either_empty_from_Zip c.loop-leg.leg-iterator c.next.new.self c.next.result c.in-None.is c.next.ensures.steps)
    c.loop-leg.invariant.value in
    sym (ap (option_map (λ f. f.1)) c.in_ok-refusal.was) ∙ ap (option_map (λ f. f.1)) ended
