use Rattle.run_audit.proofs.ColourLaws.{colours_kept}
use Rattle.run_audit.proofs.laws.every_run_keeps_colours.Goals as goal

pub returns : goal.returns
returns c = colours_kept
