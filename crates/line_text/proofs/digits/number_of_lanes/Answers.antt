use Rattle.std.proofs.Common.{ℕ, ap, arith, get_or}
use Rattle.line_text.proofs.DigitLemmas.{number_by_fours}
use Rattle.line_text.proofs.digits.number_of_lanes.Goals as goal

pub returns : goal.returns
returns c =
    let four = λ (i : ℕ). ap (λ fours. get_or fours i 0) c.fours.ensures in
    omega (arith, four 0, four 1, four 2, four 3, number_by_fours c.args.digits c.requires.count)
