use Rattle.std.proofs.Common.{◌∙◌}
use Rattle.std.proofs.lemmas.Result.{err_from_is_err_and}
use Rattle.ds_marking.proofs.writing.write_decided.Goals as goal

pub loop-preserved : goal.loop-preserved
loop-preserved g c =
    let was = c.loop.invariant in
    let one = c.in_ok-write_first.ensures in
    record {
      bounded = c.write_first.ensures.bounded;
      records = c.write_first.ensures.records ∙ was.records;
      waiting = c.write_first.ensures.waiting ∙ was.waiting;
      told = λ tells. one.told (was.told tells);
      failures = ◌∙◌ {b = g.O.Outlet.failed c.loop.outlet} one.failures was.failures;
      bytes = λ tells more frames text before at written.
          let so_far = was.bytes tells more frames text before at written in
          one.bytes (was.told tells) more frames so_far.0 before so_far.1 so_far.2;
    }

pub returns-in_err-write_first-clause-bytes : goal.returns-in_err-write_first-clause-bytes
returns-in_err-write_first-clause-bytes g c = λ tells more frames text before at written.
    let was = c.loop.invariant in
    let so_far = was.bytes tells more frames text before at written in
    let q = err_from_is_err_and c.from_residual.result c.from_residual.ensures.1 in
    rw q.1 (c.in_err-write_first.ensures.bytes (was.told tells) more frames so_far.0 before so_far.1 so_far.2)

pub returns-clause-bytes : goal.returns-clause-bytes
returns-clause-bytes g c = λ tells more frames text before at written.
    let was = c.loop.invariant in
    let so_far = was.bytes tells more frames text before at written in
    c.in_ok-write_first.ensures.bytes (was.told tells) more frames so_far.0 before so_far.1 so_far.2
