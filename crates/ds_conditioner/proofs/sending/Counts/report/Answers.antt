use Rattle.ds_conditioner.proofs.ReportLaws.{told}
use Rattle.ds_conditioner.proofs.sending.Counts.report.Goals as goal

pub returns-clause-told : goal.returns-clause-told
returns-clause-told c see frames coloured counted long tallied =
    told see c.args.rule frames c.args.self.now coloured c.dropped.result c.args.sums.now counted long tallied c.dropped.ensures.kept c.dropped.ensures.left_out
