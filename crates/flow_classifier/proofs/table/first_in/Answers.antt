use Rattle.std.proofs.Common.{sym, ◌∙◌}
use Rattle.flow_classifier.specs.Kept.{rules_in}
use Rattle.flow_classifier.proofs.TableLaws.{found_here, found_later}
use Rattle.flow_classifier.proofs.table.first_in.Goals as goal

pub returns-then-is_some : goal.returns-then-is_some
returns-then-is_some c =
    let groups = c.args.groups.now in
    found_here (rules_in groups) groups c.loop-group.group-index c.group-item.result c.args.key.now c.first_flow-found.result c.loop-group-test.true c.group-item.is
    c.first_flow-found.ensures (sym c.is_some.ensures ∙ c.if-is_some.true) c.loop-group.invariant

pub loop-group-preserved : goal.loop-group-preserved
loop-group-preserved c =
    let groups = c.args.groups.now in
    found_later (rules_in groups) groups c.loop-group.group-index c.group-item.result c.args.key.now c.first_flow-found.result c.loop-group-test.true c.group-item.is
    c.first_flow-found.ensures (sym c.is_some.ensures ∙ c.if-is_some.false) c.loop-group.invariant
