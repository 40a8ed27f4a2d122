use Rattle.std.proofs.Common.{◌≤◌, length, ap, sym, arith, ◌∙◌}
use Rattle.moment_core.specs.Columns.{each_column}
use Rattle.run_audit.proofs.FoundLaws.{first_found-over, found-column}
use Rattle.ds_runs.specs.Judging.{told_in}
use Rattle.ds_runs.proofs.sender.Buckets.told.Goals as goal

pub returns-then-is_some : goal.returns-then-is_some
returns-then-is_some c =
    (found-column (told_in c.args.flow c.args.self.now) _ c.loop-column.column-index c.told_in-found.result _ c.is_some.result
    c.each-column-items.ensures c.loop-column-test.true c.told_in-found.ensures c.is_some.ensures c.loop-column.invariant).0 c.if-is_some.true

pub loop-column-preserved : goal.loop-column-preserved
loop-column-preserved c =
    (found-column (told_in c.args.flow c.args.self.now) _ c.loop-column.column-index c.told_in-found.result _ c.is_some.result
    c.each-column-items.ensures c.loop-column-test.true c.told_in-found.ensures c.is_some.ensures c.loop-column.invariant).1 c.if-is_some.false

pub returns : goal.returns
returns c =
    let i = c.loop-column.column-index in
    let ended : length each_column ≤ i = omega (arith, ap length c.each-column-items.ensures, c.loop-column-test.false) in
    sym (first_found-over (told_in c.args.flow c.args.self.now) each_column i ended) ∙ c.loop-column.invariant
