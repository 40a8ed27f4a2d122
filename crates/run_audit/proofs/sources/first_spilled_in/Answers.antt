use Rattle.std.proofs.Common.{◌≤◌, length, map, ap, sym, arith, ◌∙◌}
use Rattle.moment_core.specs.Columns.{each_column}
use Rattle.run_audit.specs.Assembled.{passage_of}
use Rattle.run_audit.specs.Spills.{spilled_in}
use Rattle.run_audit.proofs.FoundLaws.{first_found-over, found-column}
use Rattle.run_audit.proofs.sources.first_spilled_in.Goals as goal

pub returns-then-is_some : goal.returns-then-is_some
returns-then-is_some c =
    (found-column (spilled_in c.args.source.now c.args.contract.now (map (λ trail. passage_of trail.now) c.args.own.now)) _ c.loop-column.column-index c.spilled_in-found.result _ c.is_some.result
    c.each-column-items.ensures c.loop-column-test.true c.spilled_in-found.ensures c.is_some.ensures c.loop-column.invariant).0 c.if-is_some.true

pub loop-column-preserved : goal.loop-column-preserved
loop-column-preserved c =
    (found-column (spilled_in c.args.source.now c.args.contract.now (map (λ trail. passage_of trail.now) c.args.own.now)) _ c.loop-column.column-index c.spilled_in-found.result _ c.is_some.result
    c.each-column-items.ensures c.loop-column-test.true c.spilled_in-found.ensures c.is_some.ensures c.loop-column.invariant).1 c.if-is_some.false

pub returns : goal.returns
returns c =
    let i = c.loop-column.column-index in
    let ended : length each_column ≤ i = omega (arith, ap length c.each-column-items.ensures, c.loop-column-test.false) in
    sym (first_found-over (spilled_in c.args.source.now c.args.contract.now (map (λ trail. passage_of trail.now) c.args.own.now)) each_column i ended) ∙ c.loop-column.invariant
