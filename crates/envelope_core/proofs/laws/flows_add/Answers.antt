use Rattle.envelope_core.specs.Curve.{Curve}
use Rattle.envelope_core.specs.Laws.{Flow}
use Rattle.envelope_core.proofs.Windows.{Keeps-flat_map, sum_by-map}
use Rattle.envelope_core.proofs.laws.flows_add.Goals as goal

pub returns : goal.returns
returns c = λ flows all.
    rw (sum_by-map (λ (curve : Curve). curve.rate) (λ (flow : Flow). flow.curve) flows, sum_by-map (λ (curve : Curve). curve.burst) (λ (flow : Flow). flow.curve) flows)
    (Keeps-flat_map (λ flow. flow.curve.rate) (λ flow. flow.curve.burst) (λ flow. flow.items) flows all)
