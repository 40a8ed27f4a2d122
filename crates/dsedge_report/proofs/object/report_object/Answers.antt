use Rattle.std.proofs.Common.{◌≤◌, ap, subst, sym, ◌∙◌}
use Rattle.serde_json.specs.Data.{Data, depth}
use Rattle.serde_json.specs.Read.{max_depth}
use Rattle.serde_json.specs.Written.{has_float}
use Rattle.dsedge_report.proofs.ObjectLaws.{report_plain, report_says, report_shallow}
use Rattle.dsedge_report.proofs.object.report_object.Goals as goal

pub returns-in_err-value-clause-says : goal.returns-in_err-value-clause-says
returns-in_err-value-clause-says c = report_says c.args.accepted.now c.args.report.now

pub line_of-requires-clause-plain : goal.line_of-requires-clause-plain
line_of-requires-clause-plain c = ap has_float c.in_ok-value.ensures ∙ report_plain c.args.accepted.now c.args.report.now

pub line_of-requires-clause-shallow : goal.line_of-requires-clause-shallow
line_of-requires-clause-shallow c =
    subst (λ (d : Data). depth d ≤ max_depth) (sym c.in_ok-value.ensures) (report_shallow c.args.accepted.now c.args.report.now)

pub returns-clause-says : goal.returns-clause-says
returns-clause-says c = report_says c.args.accepted.now c.args.report.now
