use Rattle.line_text.proofs.LeadingLemmas.{front_count-digits}
use Rattle.line_text.proofs.digits.first_digits.Goals as goal

pub returns-in-Some-clause-digits : goal.returns-in-Some-clause-digits
returns-in-Some-clause-digits c = rw c.in-Some.ensures.0 (front_count-digits c.args.text.now)
