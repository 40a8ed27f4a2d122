use Rattle.std.proofs.Common.{ap, ◌∙◌}
use Rattle.line_text.specs.Lines.{lines_of}
use Rattle.line_text.proofs.LineLemmas.{lines_of-cut}
use Rattle.dsedge_drive.proofs.AgainLaws.{lines_of_one}
use Rattle.dsedge_drive.proofs.laws.first_line.Goals as goal

pub returns-in-Some-clause-lines : goal.returns-in-Some-clause-lines
returns-in-Some-clause-lines c = ap lines_of c.in-Some.ensures.1 ∙ lines_of-cut c.in-Some.parts.0.now c.in-Some.parts.1.now c.in-Some.ensures.0

pub returns-in-None-clause-lines : goal.returns-in-None-clause-lines
returns-in-None-clause-lines c = lines_of_one c.args.text.now c.requires c.in-None.ensures
