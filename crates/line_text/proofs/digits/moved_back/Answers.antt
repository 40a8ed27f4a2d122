use Rattle.line_text.proofs.DigitLemmas.{moved}
use Rattle.line_text.proofs.digits.moved_back.Goals as goal

pub swizzle : goal.swizzle
swizzle c = (moved c.args.count c.requires.count c.args.lanes c.requires.lanes).0

pub returns : goal.returns
returns c = (moved c.args.count c.requires.count c.args.lanes c.requires.lanes).1
