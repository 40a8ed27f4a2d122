use Rattle.std.proofs.Common.{◌≡◌, ◌+◌, ◌<◌, ◌++◌, get_or, take, length, ap, sym, ◌∙◌, append_assoc, arith}
use Rattle.std.specs.Arc.{arc_value}
use Rattle.ds_conditioner.specs.Fates.{fate_text}
use Rattle.ds_conditioner.specs.Stretches.{between, fated}
use Rattle.ds_conditioner.proofs.StretchLaws.{is_right, is_within, text_more}
use Rattle.ds_conditioner.proofs.stretch.Stretch.add_to.Goals as goal

pub overflow_add-self-inside : goal.overflow_add-self-inside
overflow_add-self-inside c =
    let s = c.self.inside in
    let place = c.loop-place.place in
    let there : place < length s.fates.items = omega (arith, c.loop-place-test.true, c.len-place-end.ensures, s.fates.ok.0) in
    let within = is_within (arc_value s.piece) s.from s.until s.fates.items _ c.args.self.now c.self.invariant c.self.view_is place there in
    grind (arith, within)

pub add_fated-requires : goal.add_fated-requires
add_fated-requires c =
    let s = c.self.inside in
    let place = c.loop-place.place in
    let there : place < length s.fates.items = omega (arith, c.loop-place-test.true, c.len-place-end.ensures, s.fates.ok.0) in
    let read : c.frame.result ≡ get_or (arc_value s.piece) (s.from + place) c.frame.result =
    c.frame.ensures ∙ ap (λ fs. get_or fs (s.from + place) c.frame.result) c.deref.ensures in
    is_right (arc_value s.piece) s.from s.until s.fates.items _ c.args.self.now c.self.invariant c.self.view_is place there c.frame.result c.index.result.now read c.index.ensures

pub loop-place-preserved : goal.loop-place-preserved
loop-place-preserved c =
    let s = c.self.inside in
    let place = c.loop-place.place in
    let out = c.args.out.now.items in
    let own = fated (between s.from s.until (arc_value s.piece)) (take place s.fates.items) in
    let text = fate_text c.frame.result c.index.result.now in
    let there : place < length s.fates.items = omega (arith, c.loop-place-test.true, c.len-place-end.ensures, s.fates.ok.0) in
    let read : c.frame.result ≡ get_or (arc_value s.piece) (s.from + place) c.frame.result =
    c.frame.ensures ∙ ap (λ fs. get_or fs (s.from + place) c.frame.result) c.deref.ensures in
    c.in_ok-add_fated.ensures ∙ ap (λ it. it ++ text) c.loop-place.invariant ∙ append_assoc out own text
    ∙ ap (λ it. out ++ it) (sym (text_more (arc_value s.piece) s.from s.until s.fates.items _ c.args.self.now c.self.invariant c.self.view_is place there c.frame.result c.index.result.now read c.index.ensures))
