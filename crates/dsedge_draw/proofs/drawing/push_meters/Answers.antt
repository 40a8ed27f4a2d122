use Rattle.std.proofs.Common.{◌≡◌, ◌⊎◌, ◌∙◌, [], inl, inr, sym}
use Rattle.std.specs.Iterator.Adapters.{zip_first, zip_second}
use Rattle.std.specs.Slice.Iter.{iter_rest}
use Rattle.std.proofs.lemmas.List.{nil_from_length}
use Rattle.dsedge_draw.proofs.DrawLemmas.{meters_ended, meters_next}
use Rattle.dsedge_draw.proofs.drawing.push_meters.Goals as goal

pub loop-name-preserved : goal.loop-name-preserved
loop-name-preserved c =
    let more = c.in-Some.ensures.steps in
    rw c.in_ok-push_meter.ensures
    (meters_next c.loop-name.text.items _ _ c.in-Some.name.now c.in-Some.field-0-0-1.now _ _ c.in-Some.headroom.now more.0 more.1 ∙ c.loop-name.invariant)

pub returns : goal.returns
returns c =
    let meters = zip_first c.loop-name.name-iterator in
    let headrooms = iter_rest (zip_second c.loop-name.name-iterator) in
    let ended : (meters ≡ []) ⊎ (headrooms ≡ []) = elim c.in-None.ensures.steps [ inl e ↦ inl e.1.0 | inr e ↦ inr (nil_from_length headrooms e.1.0) ] in
    sym (meters_ended c.loop-name.text.items meters headrooms ended) ∙ c.loop-name.invariant
