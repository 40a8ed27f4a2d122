use Rattle.std.proofs.lemmas.Simd.{dot4_Fits}
use Rattle.line_text.proofs.DigitLemmas.{back_weights, fours_are, front_weights}
use Rattle.line_text.proofs.digits.fours.Goals as goal

pub dot4 : goal.dot4
dot4 c = (dot4_Fits c.args.digits front_weights c.fits-digits.1 tt, tt)

pub dot4-2 : goal.dot4-2
dot4-2 c = (dot4_Fits c.args.digits back_weights c.fits-digits.1 tt, tt)

pub returns : goal.returns
returns c = fours_are c.args.digits c.requires
