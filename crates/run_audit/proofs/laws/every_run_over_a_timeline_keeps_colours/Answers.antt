use Rattle.run_audit.proofs.ColourLaws.{timeline_keeps}
use Rattle.run_audit.proofs.laws.every_run_over_a_timeline_keeps_colours.Goals as goal

pub returns : goal.returns
returns c = timeline_keeps
