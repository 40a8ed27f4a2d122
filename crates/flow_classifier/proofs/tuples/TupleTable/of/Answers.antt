use Rattle.std.proofs.Common.{◌≡◌, true, List, ap, map, subst, ◌∙◌}
use Rattle.std.specs.Prelude.{All}
use Rattle.std.specs.List.{list_any}
use Rattle.flow_classifier.specs.Tuples.{IsTupleOf, lengths_of, same_lengths}
use Rattle.flow_classifier.specs.declared.table.FlowRule.{FlowRule}
use Rattle.flow_classifier.proofs.TupleLaws.{inside_some, made_tuples}
use Rattle.flow_classifier.proofs.tuples.TupleTable.of.Goals as goal

pub invariant_of-result : goal.invariant_of-result
invariant_of-result c =
    let rules = c.args.rules.items in
    let found = inside_some c.in_ok-lengths.field-0 c.in-Some.lengths
    (λ lengths. All (λ row. list_any (λ m. same_lengths (lengths_of row.rule) m) lengths.items ≡ true) c.deref.result.now) c.in-Some.is c.in_ok-lengths.ensures in (
      c.in_ok-flows.ensures ∙ ap (λ (rs : List FlowRule). map (λ row. row.flow) rs) c.deref-4.ensures.value,
      made_tuples rules c.in-Some.lengths.items c.in_ok-tuples.tuples.items
          (subst (λ (rs : List FlowRule). All (λ row. list_any (λ m. same_lengths (lengths_of row.rule) m) c.in-Some.lengths.items ≡ true) rs) c.deref.ensures.value found)
          (c.in_ok-tuples.ensures.lengths ∙ c.deref-2.ensures.value)
          (subst (λ (rs : List FlowRule). All (λ t. IsTupleOf rs t) c.in_ok-tuples.tuples.items) c.deref-3.ensures.value c.in_ok-tuples.ensures.tuples),
    )
