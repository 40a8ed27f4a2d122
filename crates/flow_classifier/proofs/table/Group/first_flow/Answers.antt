use Rattle.std.proofs.Common.{ap, sym, ◌∙◌, arith}
use Rattle.flow_classifier.specs.Tables.{first_flow_of}
use Rattle.flow_classifier.proofs.TableLaws.{flow_found, none_ask, none_found}
use Rattle.flow_classifier.proofs.table.Group.first_flow.Goals as goal

pub returns-then-holds : goal.returns-then-holds
returns-then-holds c =
    flow_found c.deref.result.now c.min-first.result c.loop-row.row-index c.row-item.result c.args.key.now
    (none_ask c.self.inside.sources c.self.inside.rules.items c.deref.result.now c.first.result c.min-first.result c.args.key.now c.source.result c.source.ensures c.self.invariant c.deref.ensures.value
    (omega (arith, c.min-first.ensures)) c.first.ensures)
    c.loop-row-test.true c.row-item.is (sym c.holds.ensures ∙ c.if-holds.true) c.loop-row.invariant
    ∙ ap (λ rules. first_flow_of rules c.args.key.now) (c.deref.ensures.value ∙ c.self.view_is)

pub returns : goal.returns
returns c =
    none_found c.deref.result.now c.min-first.result c.loop-row.row-index c.args.key.now
    (none_ask c.self.inside.sources c.self.inside.rules.items c.deref.result.now c.first.result c.min-first.result c.args.key.now c.source.result c.source.ensures c.self.invariant c.deref.ensures.value
    (omega (arith, c.min-first.ensures)) c.first.ensures)
    c.loop-row-test.false c.loop-row.invariant
    ∙ ap (λ rules. first_flow_of rules c.args.key.now) (c.deref.ensures.value ∙ c.self.view_is)
