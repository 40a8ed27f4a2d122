use Rattle.std.proofs.Common.{sym, ap, ◌∙◌, arith}
use Rattle.std.proofs.lemmas.Option.{get_or_from_slice_get}
use Rattle.flow_classifier.specs.Matching.{holds}
use Rattle.flow_classifier.specs.declared.table.FlowRule.{FlowRule}
use Rattle.flow_classifier.specs.declared.tuples.Row.{Row}
use Rattle.flow_classifier.proofs.TupleLaws.{none_behind, none_more}
use Rattle.flow_classifier.proofs.tuples.first_of_run.Goals as goal
use Rattle.flow_classifier.proofs.tuples.first_of_run.Goals.{then-decided-via-then-decided, then-decided-via-else-decided+then-holds}
use Rattle.flow_classifier.proofs.tuples.first_of_run.Goals.{then-row-addresses-via-then-row-addresses, then-row-addresses-via-else-row-addresses+then-most-row}

none : Row
none = record { addresses = 0; place = 0 }

pub returns-then-row-addresses-clause-none : goal.returns-then-row-addresses-clause-none
unfolding none
returns-then-row-addresses-clause-none c =
    none_behind c.args.run.now c.args.addresses c.args.rules.now c.args.key.now c.loop-row.row-index c.args.most none c.loop-row-test.true
    (λ same. elim c.then-row-addresses.branch [
      | then-row-addresses-via-then-row-addresses w ↦ absurd (w.if-row-addresses.true same)
      | then-row-addresses-via-else-row-addresses+then-most-row w ↦ w.if-most-row.true
    ]) c.loop-row.invariant

pub returns-then-decided-clause-held : goal.returns-then-decided-clause-held
unfolding none
returns-then-decided-clause-held c = λ less row at.
    elim c.then-decided.branch [
      | then-decided-via-then-decided w ↦ c.requires.decided w.if-decided.true c.loop-row.row-index none c.loop-row-test.true c.if-row-addresses.false row at
      | then-decided-via-else-decided+then-holds w ↦
          ap (λ (r : FlowRule). holds r.rule c.args.key.now) (sym (get_or_from_slice_get c.args.rules.now _ row w.index-rules-row.result at))
          ∙ sym w.holds.ensures ∙ w.if-holds.true
    ]

pub returns-then-decided-clause-none : goal.returns-then-decided-clause-none
unfolding none
returns-then-decided-clause-none c =
    none_behind c.args.run.now c.args.addresses c.args.rules.now c.args.key.now c.loop-row.row-index _ none c.loop-row-test.true (λ same. omega arith)
    c.loop-row.invariant

pub loop-row-preserved : goal.loop-row-preserved
unfolding none
loop-row-preserved c =
    none_more c.args.run.now c.args.rules.now c.args.key.now c.loop-row.row-index none c.loop-row-test.true
    (λ row at. ap (λ (r : FlowRule). holds r.rule c.args.key.now) (sym (get_or_from_slice_get c.args.rules.now _ row c.index-rules-row.result at))
    ∙ sym c.holds.ensures ∙ c.if-holds.false) c.loop-row.invariant
