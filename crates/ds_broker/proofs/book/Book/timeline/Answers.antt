use Rattle.std.proofs.Common.{ap, subst, sym, ◌∙◌}
use Rattle.std.specs.List.{AllByRecursion}
use Rattle.ds_timeline.specs.Timelines.{routes_in}
use Rattle.ds_broker.specs.Timelines.{IsOfRates, past_of}
use Rattle.ds_broker.proofs.TakingLaws.{timeline-taken}
use Rattle.ds_broker.proofs.book.Book.timeline.Goals as goal

pub new-requires-clause-timeline : goal.new-requires-clause-timeline
new-requires-clause-timeline c =
    let i = c.self.inside in
    let own = c.domain.ensures.value ∙ ap (λ t. t.domain) c.accepted-table.ensures.value in
    timeline-taken i.table.domain c.in-Ok.domain i.limits i.history.items c.granted.inside.granted.items c.in_ok-granted.field-0 c.self.invariant.unrefused c.self.invariant.short
    (subst (AllByRecursion (IsOfRates i.table.domain)) c.as_slice.ensures.value (subst (λ d. AllByRecursion (IsOfRates d) c.as_slice.result.now) own c.in_ok-granted.ensures.rated))
    (c.in-Ok.ensures.copied ∙ (c.domain-2.ensures.value ∙ ap (λ t. t.domain) c.accepted-table.ensures.value)) (ap (λ p. p.granted) c.granted.view_is)
    (c.in_ok-granted.ensures.value ∙ ap (λ d. past_of d c.as_slice.result.now) own ∙ ap (past_of i.table.domain) c.as_slice.ensures.value)

pub new-requires-clause-routes : goal.new-requires-clause-routes
new-requires-clause-routes c =
    c.in_ok-granted.ensures.routes
    ∙ ap (λ d. routes_in d c.in_ok-granted.field-0.granted) (c.domain.ensures.value ∙ sym (c.in-Ok.ensures.copied ∙ c.domain-2.ensures.value))
    ∙ sym (ap (λ p. routes_in c.in-Ok.domain p.granted) c.granted.view_is)
