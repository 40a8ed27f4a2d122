use Rattle.line_text.proofs.LineLemmas.{position-first}
use Rattle.line_text.proofs.fields.place_of.Goals as goal

pub returns : goal.returns
returns c = position-first c.args.mark c.args.text.now c.memchr.result c.memchr.ensures
