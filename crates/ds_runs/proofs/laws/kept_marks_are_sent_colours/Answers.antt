use Rattle.ds_runs.proofs.MarkLaws.{kept_marks}
use Rattle.ds_runs.proofs.laws.kept_marks_are_sent_colours.Goals as goal

pub returns : goal.returns
returns c = kept_marks
