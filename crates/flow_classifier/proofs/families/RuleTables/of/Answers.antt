use Rattle.flow_classifier.specs.Families.{can_take_ipv4, can_take_ipv6}
use Rattle.flow_classifier.proofs.FamilyLaws.{one_more}
use Rattle.flow_classifier.proofs.families.RuleTables.of.Goals as goal

pub loop-row-preserved : goal.loop-row-preserved
loop-row-preserved c =
    let rules = c.args.rules.now in
    let index = c.loop-row.row-index in
    record {
      ipv4 =
          one_more (λ row. can_take_ipv4 row.rule) rules _ _ _ index c.row-item.result c.can_take_ipv4.result c.loop-row-test.true c.row-item.is c.can_take_ipv4.ensures
          c.in_ok-push_where.ensures c.loop-row.invariant.ipv4;
      ipv6 =
          one_more (λ row. can_take_ipv6 row.rule) rules _ _ _ index c.row-item.result c.can_take_ipv6.result c.loop-row-test.true c.row-item.is c.can_take_ipv6.ensures
          c.in_ok-push_where-2.ensures c.loop-row.invariant.ipv6;
    }
