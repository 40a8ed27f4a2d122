use Rattle.std.proofs.Common.{◌++◌}
use Rattle.std.proofs.lemmas.Result.{err_from_is_err_and}
use Rattle.line_text.specs.Lines.{lines_of}
use Rattle.dsedge_lines.proofs.FrontLemmas.{first_of_lines}
use Rattle.dsedge_meter.proofs.meter.MeterCommandCommand.front_line.Goals as goal

pub returns-in_err-ended-clause-answer : goal.returns-in_err-ended-clause-answer
returns-in_err-ended-clause-answer c later =
    let first = c.in-Some.ensures in
    let failed = err_from_is_err_and c.from_residual.result c.from_residual.ensures.1 in
    rw (failed.1, first_of_lines first.1 later) (c.in_err-ended.ensures c.args.number first.0 (lines_of (c.in-Some.rest.now ++ later)) first.2)

pub returns-clause-answer : goal.returns-clause-answer
returns-clause-answer c later =
    let first = c.in-Some.ensures in
    rw (first_of_lines first.1 later) (c.in_ok-ended.ensures c.args.number first.0 (lines_of (c.in-Some.rest.now ++ later)) first.2)
