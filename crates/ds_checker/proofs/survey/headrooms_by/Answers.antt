use Rattle.std.proofs.Common.{◌≡◌, ◌⊎◌, ◌∙◌, [], inl, inr, sym}
use Rattle.std.specs.Iterator.Adapters.{zip_first, zip_second}
use Rattle.std.specs.Slice.Iter.{iter_rest}
use Rattle.std.proofs.lemmas.List.{nil_from_length}
use Rattle.ds_checker.proofs.SurveyLaws.{headrooms_ended, headrooms_next}
use Rattle.ds_checker.proofs.survey.headrooms_by.Goals as goal

pub loop-meter-preserved : goal.loop-meter-preserved
loop-meter-preserved c =
    let more = c.in-Some.ensures.steps in
    rw c.in_ok-push.ensures.items
    (headrooms_next c.loop-meter.headrooms.items _ _ c.in-Some.field-0-0-0.now c.in-Some.meter.now _ _ c.in-Some.loads.now c.headroom_at.result more.0 more.1 c.headroom_at.ensures
    ∙ c.loop-meter.invariant)

pub returns : goal.returns
returns c =
    let meters = zip_first c.loop-meter.meter-iterator in
    let sums = iter_rest (zip_second c.loop-meter.meter-iterator) in
    let ended : (meters ≡ []) ⊎ (sums ≡ []) = elim c.in-None.ensures.steps [ inl e ↦ inl e.1.0 | inr e ↦ inr (nil_from_length sums e.1.0) ] in
    sym (headrooms_ended c.loop-meter.headrooms.items meters sums ended) ∙ c.loop-meter.invariant
