use Rattle.std.proofs.Common.{sym, arith, ◌∙◌}
use Rattle.moment_core.specs.declared.column.Column.TheVariants.{Green}
use Rattle.ds_checker.specs.BoundTests.{hop_test}
use Rattle.ds_checker.proofs.BoundLaws.{column-next, columns-ended, found, not_found}
use Rattle.ds_checker.proofs.bounds.hop_refusal.Goals as goal

pub returns-then-is_some : goal.returns-then-is_some
returns-then-is_some c =
    found c.hop_refusal_in-refusal.result _ _ (sym c.is_some.ensures ∙ c.if-is_some.true)
    (column-next (hop_test c.args.number c.args.hop c.args.source.now c.args.jitter c.args.before c.args.bound) c.each-column-items.result.now c.loop-column.column-index Green c.hop_refusal_in-refusal.result
    c.each-column-items.ensures c.loop-column-test.true c.hop_refusal_in-refusal.ensures c.loop-column.invariant)

pub loop-column-preserved : goal.loop-column-preserved
loop-column-preserved c =
    not_found c.hop_refusal_in-refusal.result _ _ (sym c.is_some.ensures ∙ c.if-is_some.false)
    (column-next (hop_test c.args.number c.args.hop c.args.source.now c.args.jitter c.args.before c.args.bound) c.each-column-items.result.now c.loop-column.column-index Green c.hop_refusal_in-refusal.result
    c.each-column-items.ensures c.loop-column-test.true c.hop_refusal_in-refusal.ensures c.loop-column.invariant)

pub returns : goal.returns
returns c =
    columns-ended (hop_test c.args.number c.args.hop c.args.source.now c.args.jitter c.args.before c.args.bound) c.each-column-items.result.now c.loop-column.column-index c.each-column-items.ensures
    (omega (arith, c.loop-column-test.false)) c.loop-column.invariant
