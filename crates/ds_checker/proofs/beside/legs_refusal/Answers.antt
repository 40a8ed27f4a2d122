use Rattle.std.proofs.Common.{arith, ◌<◌, ◌^◌, ap, length, inl, option_map, refl, slice_get, subst, sym, ◌∙◌, is_some}
use Rattle.std.proofs.lemmas.List.{drop_all}
use Rattle.ds_certificate.specs.Bounds.{delayed}
use Rattle.ds_checker.specs.Sums.{AreBelow}
use Rattle.ds_checker.proofs.BesideLaws.{nameless-by, nameless-next}
use Rattle.ds_checker.proofs.BoundLaws.{item_ahead}
use Rattle.ds_checker.proofs.LoadLaws.{AreBelow-at, AreBelow-more}
use Rattle.ds_checker.proofs.RoutedLaws.{least-leg}
use Rattle.ds_checker.proofs.WalkLaws.{some-map, walk-ended, walk-found, walk-hop}
use Rattle.ds_checker.proofs.beside.legs_refusal.Goals as goal

pub at-requires : goal.at-requires
at-requires c = omega (arith, c.loop-number-test.true, c.requires.level)

pub with-requires-clause-room : goal.with-requires-clause-room
with-requires-clause-room c =
    let inside : c.loop-number.number < length c.args.sums.now = omega (arith, c.loop-number-test.true, c.requires.level) in
    let room = AreBelow-more (2 ^ 120) (2 ^ 121) c.args.sums.now (omega arith) c.requires.room in
    subst (AreBelow (2 ^ 121)) (sym c.at.ensures) (AreBelow-at (2 ^ 121) c.args.sums.now c.loop-number.number c.at.result.now inside room)

pub loop-number-preserved : goal.loop-number-preserved
loop-number-preserved c =
    let leg = c.index-legs-number.result in
    let inside : c.loop-number.number < length c.args.sums.now = omega (arith, c.loop-number-test.true, c.requires.level) in
    let legs = item_ahead c.args.legs.now c.loop-number.number leg c.loop-number-test.true c.index-legs-number.is in
    let sums = item_ahead c.args.sums.now c.loop-number.number c.at.result.now inside c.at.ensures in
    let is_next = c.delayed-bound.ensures.value ∙ ap (λ jitter. delayed c.args.source.now jitter c.loop-number.bound) c.gap.ensures.value in
    let next = least-leg c.args.source.now _ _ leg c.loop-number.bound c.delayed-bound.result legs is_next in
    let range = c.delayed-bound.ensures.range in
    let last = c.loop-number.invariant.range in
    record {
      value = walk-hop c.args.domain.now.meters c.args.source.now c.args.has_peak _ _ leg _ _ c.at.result.now c.with.result _ _ c.delayed-bound.result
          c.place_refusal-refusal.result c.loop-number.first c.earlier-first.result _ legs sums next c.with.ensures.value c.place_refusal-refusal.ensures c.earlier-first.ensures
          c.loop-number.invariant.value;
      nameless = nameless-next c.loop-number.first c.earlier-first.result leg.place c.place_refusal-refusal.result c.loop-number.invariant.nameless
          (nameless-by (slice_get c.args.domain.now.meters leg.place) c.with.result c.place_refusal-refusal.result c.place_refusal-refusal.ensures) c.earlier-first.ensures;
      range = (omega (arith, range.0, last.0), (omega (arith, range.1.0, last.1.0), (omega (arith, range.1.1.0, last.1.1.0), tt)));
    }

pub returns-in_err-refusal-clause-first : goal.returns-in_err-refusal-clause-first
returns-in_err-refusal-clause-first c all =
    let ended = walk-ended _ _ _ _ _ _ c.loop-number.first _ (inl (drop_all c.loop-number.number c.args.legs.now (omega arith))) c.loop-number.invariant.value in
    c.from_residual.ensures ∙ sym (ap (option_map (λ f. f.1)) c.in_err-refusal.was) ∙ ap (option_map (λ f. f.1)) ended

pub returns-in_err-refusal-clause-some : goal.returns-in_err-refusal-clause-some
returns-in_err-refusal-clause-some c =
    let ended = walk-ended _ _ _ _ _ _ c.loop-number.first _ (inl (drop_all c.loop-number.number c.args.legs.now (omega arith))) c.loop-number.invariant.value in
    ap is_some (c.from_residual.ensures ∙ sym (ap (option_map (λ f. f.1)) c.in_err-refusal.was)) ∙ some-map (λ f. f.1) c.loop-number.first ∙ ap is_some ended

pub returns-clause-first : goal.returns-clause-first
returns-clause-first c all =
    let ended = walk-ended _ _ _ _ _ _ c.loop-number.first _ (inl (drop_all c.loop-number.number c.args.legs.now (omega arith))) c.loop-number.invariant.value in
    sym (ap (option_map (λ f. f.1)) c.in_ok-refusal.was) ∙ ap (option_map (λ f. f.1)) ended

pub returns-clause-some : goal.returns-clause-some
returns-clause-some c =
    let ended = walk-ended _ _ _ _ _ _ c.loop-number.first _ (inl (drop_all c.loop-number.number c.args.legs.now (omega arith))) c.loop-number.invariant.value in
    ap is_some (sym (ap (option_map (λ f. f.1)) c.in_ok-refusal.was)) ∙ some-map (λ f. f.1) c.loop-number.first ∙ ap is_some ended

pub returns-then-is_some-clause-some : goal.returns-then-is_some-clause-some
returns-then-is_some-clause-some c =
    let leg = c.index-legs-number.result in
    let inside : c.loop-number.number < length c.args.sums.now = omega (arith, c.loop-number-test.true, c.requires.level) in
    let legs = item_ahead c.args.legs.now c.loop-number.number leg c.loop-number-test.true c.index-legs-number.is in
    let sums = item_ahead c.args.sums.now c.loop-number.number c.at.result.now inside c.at.ensures in
    let is_next = c.delayed-bound.ensures.value ∙ ap (λ jitter. delayed c.args.source.now jitter c.loop-number.bound) c.gap.ensures.value in
    let next = least-leg c.args.source.now _ _ leg c.loop-number.bound c.delayed-bound.result legs is_next in
    walk-found leg.place c.place_refusal-refusal.result c.loop-number.first _ _ (sym c.is_some.ensures ∙ c.if-is_some.true)
    (walk-hop c.args.domain.now.meters c.args.source.now c.args.has_peak _ _ leg _ _ c.at.result.now c.with.result _ _ c.delayed-bound.result
    c.place_refusal-refusal.result c.loop-number.first _ _ legs sums next c.with.ensures.value c.place_refusal-refusal.ensures refl c.loop-number.invariant.value)

pub returns-then-is_some-clause-nameless : goal.returns-then-is_some-clause-nameless
returns-then-is_some-clause-nameless c =
    nameless-by (slice_get c.args.domain.now.meters c.index-legs-number.result.place) c.with.result c.place_refusal-refusal.result c.place_refusal-refusal.ensures
