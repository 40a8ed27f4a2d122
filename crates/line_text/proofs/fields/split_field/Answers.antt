use Rattle.std.proofs.Common.{◌∙◌, ap}
use Rattle.line_text.specs.Lines.{fields_of}
use Rattle.line_text.proofs.LineLemmas.{fields_of-cut, fields_of-uncut}
use Rattle.line_text.proofs.fields.split_field.Goals as goal

pub returns-in-Some : goal.returns-in-Some
returns-in-Some c = ap fields_of c.in-Some.ensures.1 ∙ fields_of-cut c.in-Some.field.now c.in-Some.rest.now c.in-Some.ensures.0

pub returns-in-None : goal.returns-in-None
returns-in-None c = fields_of-uncut c.args.line.now c.in-None.ensures
