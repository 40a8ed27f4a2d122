use Rattle.dsedge_lines.proofs.FrontLemmas.{front_further, further_then}
use Rattle.dsedge_lines.proofs.fronts.long_number.Goals as goal

pub returns : goal.returns
returns c =
    front_further c.in_ok-value.ensures.0 c.in_ok-value.ensures.1 c.in_ok-value.ensures.2
    (further_then c.in_ok-value-2.ensures (further_then c.in_ok-value-3.ensures (further_then c.in_ok-value-4.ensures c.in_ok-value-5.ensures)))
