use Rattle.std.proofs.Common.{◌∷◌, sym, ◌∙◌}
use Rattle.dsedge_lines.proofs.FrontLemmas.{front_further, further_none}
use Rattle.dsedge_lines.proofs.fronts.number_before.Goals as goal

pub returns-in-Some-clause-number : goal.returns-in-Some-clause-number
returns-in-Some-clause-number c =
    front_further c.in_ok-value.ensures.0 c.in_ok-value.ensures.1 (sym c.in-Some.ensures.behind ∙ c.in_ok-value.ensures.2)
    (further_none 4 c.in_ok-value.value (c.args.end ∷ c.in-Some.behind.now))
