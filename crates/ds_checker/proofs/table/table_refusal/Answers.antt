use Rattle.std.proofs.Common.{rules, ◌≡◌, ◌⊎◌, inl, inr, [], sym, ap, ◌∙◌}
use Rattle.std.specs.Iterator.Adapters.{zip_first, zip_second}
use Rattle.std.specs.Slice.Iter.{iter_rest}
use Rattle.ds_checker.specs.Sums.{sums_tests}
use Rattle.ds_checker.specs.Tests.{first_failed}
use Rattle.ds_checker.proofs.BoundLaws.{found, not_found}
use Rattle.ds_checker.proofs.LoadLaws.{tests_ended, tests_next}
use Rattle.ds_checker.proofs.table.table_refusal.Goals as goal
use Rattle.std.proofs.lemmas.List.{nil_from_length}

pub loop-name-init : goal.loop-name-init
loop-name-init c =
    let meters : zip_first c.into_iter-name-iterator.result ≡ c.args.domain.now.meters = search rules in
    let sums : iter_rest (zip_second c.into_iter-name-iterator.result) ≡ c.args.sums.now = search rules in
    ap (λ list. first_failed (sums_tests list (iter_rest (zip_second c.into_iter-name-iterator.result)))) meters
    ∙ ap (λ list. first_failed (sums_tests c.args.domain.now.meters list)) sums

pub returns-then-is_some : goal.returns-then-is_some
returns-then-is_some c =
    let more = c.in-Some.ensures.steps in
    found c.meter_refusal-refusal.result _ _ (sym c.is_some.ensures ∙ c.if-is_some.true)
    (sym (tests_next _ _ c.in-Some.name.now c.in-Some.meter.now _ _ c.in-Some.loads.now c.meter_refusal-refusal.result more.0 more.1 c.meter_refusal-refusal.ensures) ∙ c.loop-name.invariant)

pub loop-name-preserved : goal.loop-name-preserved
loop-name-preserved c =
    let more = c.in-Some.ensures.steps in
    not_found c.meter_refusal-refusal.result _ _ (sym c.is_some.ensures ∙ c.if-is_some.false)
    (sym (tests_next _ _ c.in-Some.name.now c.in-Some.meter.now _ _ c.in-Some.loads.now c.meter_refusal-refusal.result more.0 more.1 c.meter_refusal-refusal.ensures) ∙ c.loop-name.invariant)

pub returns : goal.returns
returns c =
    let meters = zip_first c.loop-name.name-iterator in
    let sums = iter_rest (zip_second c.loop-name.name-iterator) in
    let ended : (meters ≡ []) ⊎ (sums ≡ []) = elim c.in-None.ensures.steps [ inl e ↦ inl e.1.0 | inr e ↦ inr (nil_from_length sums e.1.0) ] in
    sym (tests_ended meters sums ended) ∙ c.loop-name.invariant
