use Rattle.std.proofs.Common.{ap, ◌∙◌}
use Rattle.ds_broker.specs.Changes.{flows_changed}
use Rattle.ds_broker.proofs.NextLaws.{flows-kept}
use Rattle.ds_broker.proofs.book.Book.with_change.Goals as goal

pub returns-clause-flows : goal.returns-clause-flows
returns-clause-flows c =
    let own = flows-kept c.self.inside c.args.self.now c.self.view_is c.self.invariant c.in_ok-flows.field-0.items (rw c.as_slice.ensures.value at c.in_ok-flows.ensures) in
    c.in_ok-take.ensures.flows ∙ ap (flows_changed c.args.change.now.step) own
