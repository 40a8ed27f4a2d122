use Rattle.std.proofs.Common.{◌≡◌, ◌<◌, ◌≤◌, List, length, map, refl, subst, ap, ℕ, ◌∙◌}
use Rattle.std.proofs.lemmas.List.{length-map}
use Rattle.std.proofs.lemmas.Option.{slice_get_read}
use Rattle.flow_classifier.specs.declared.table.FlowRule.{FlowRule}
use Rattle.flow_classifier.proofs.TupleLaws.{flow_found, found_none}
use Rattle.flow_classifier.proofs.tuples.TupleTable.first_sought.Goals as goal

pub returns-in_err-get : goal.returns-in_err-get
returns-in_err-get c =
    let flows : c.deref.result.now ≡ map (λ (row : FlowRule). row.flow) c.args.self.now =
    c.deref.ensures.value ∙ c.self.invariant.0 ∙ ap (λ (rs : List FlowRule). map (λ (row : FlowRule). row.flow) rs) c.self.view_is in
    c.from_residual.ensures
    ∙ found_none c.args.self.now c.args.key c.first_held-first.result
    (subst (λ n. n ≤ c.first_held-first.result) (ap (λ (fs : List ℕ). length fs) flows ∙ length-map c.args.self.now (λ (row : FlowRule). row.flow)) c.in_err-get.ensures.lookup.3)
    c.first_held-first.ensures.none

pub returns : goal.returns
returns c =
    let seen = c.deref.result.now in
    let place = c.first_held-first.result in
    let flow = c.in_ok-get.field-0.now in
    let flows : seen ≡ map (λ (row : FlowRule). row.flow) c.args.self.now =
    c.deref.ensures.value ∙ c.self.invariant.0 ∙ ap (λ (rs : List FlowRule). map (λ (row : FlowRule). row.flow) rs) c.self.view_is in
    let there = c.in_ok-get.ensures.lookup.3.0 in
    let at = slice_get_read seen (length seen) place flow refl there c.in_ok-get.ensures.lookup.1 in
    let inside : place < length c.args.self.now =
    subst (λ n. place < n) (ap (λ (fs : List ℕ). length fs) flows ∙ length-map c.args.self.now (λ (row : FlowRule). row.flow)) there in
    flow_found c.args.self.now seen c.args.key place flow flows at (c.first_held-first.ensures.held inside) c.first_held-first.ensures.none
