use Rattle.std.proofs.Common.{sym, ◌∙◌}
use Rattle.std.proofs.lemmas.Bool.{cond-true, cond-false, eq-eqb, ne_eqb}
use Rattle.line_text.proofs.DigitLemmas.{count_is}
use Rattle.line_text.proofs.digits.count_digits.Goals as goal

pub returns-then-others-eq0 : goal.returns-then-others-eq0
returns-then-others-eq0 c = sym (cond-true _ _ _ (eq-eqb _ _ c.if-others-eq0.true)) ∙ count_is c.args.digits c.requires

pub returns-else-others-eq0 : goal.returns-else-others-eq0
returns-else-others-eq0 c = sym (cond-false _ _ _ (ne_eqb _ _ c.if-others-eq0.false)) ∙ count_is c.args.digits c.requires
