use Rattle.std.proofs.Common.{◌≡◌, true, false, ltb, rules, subst, sym, List}
use Rattle.std.specs.List.Sorted.{IsPartitionPoint, IsSorted}
use Rattle.std.proofs.lemmas.List.Sorted.{IsPartitionPoint-from_clause, IsPartitionedBy-ltb}
use Rattle.flow_classifier.specs.Tuples.{row_cmp}
use Rattle.flow_classifier.specs.declared.tuples.Row.{Row}
use Rattle.flow_classifier.proofs.TupleLaws.{none_smaller, rise, smaller_before}
use Rattle.flow_classifier.proofs.tuples.Tuple.start_of.Goals as goal

pub returns-clause-before : goal.returns-clause-before
returns-clause-before c =
    let seen = c.deref.result.now in
    let up = subst (λ (rs : List Row). IsSorted row_cmp rs) (sym c.deref.ensures.value) c.requires in
    let point = IsPartitionPoint-from_clause (λ (r : Row). ltb r.addresses c.args.addresses) seen c.partition_point.result c.partition_point.ensures.partitioned
    (IsPartitionedBy-ltb (λ (r : Row). r.addresses) seen c.args.addresses (rise seen up)) (λ a r q k. search rules) in
    smaller_before c.args.self.now.rows.items c.args.addresses c.partition_point.result
    (subst (λ (rs : List Row). IsPartitionPoint (λ r. ltb r.addresses c.args.addresses ≡ true) (λ r. ltb r.addresses c.args.addresses ≡ false) rs c.partition_point.result)
    c.deref.ensures.value point)

pub returns-clause-behind : goal.returns-clause-behind
returns-clause-behind c =
    let seen = c.deref.result.now in
    let up = subst (λ (rs : List Row). IsSorted row_cmp rs) (sym c.deref.ensures.value) c.requires in
    let point = IsPartitionPoint-from_clause (λ (r : Row). ltb r.addresses c.args.addresses) seen c.partition_point.result c.partition_point.ensures.partitioned
    (IsPartitionedBy-ltb (λ (r : Row). r.addresses) seen c.args.addresses (rise seen up)) (λ a r q k. search rules) in
    none_smaller c.args.self.now.rows.items c.args.addresses c.partition_point.result
    (subst (λ (rs : List Row). IsPartitionPoint (λ r. ltb r.addresses c.args.addresses ≡ true) (λ r. ltb r.addresses c.args.addresses ≡ false) rs c.partition_point.result)
    c.deref.ensures.value point)
