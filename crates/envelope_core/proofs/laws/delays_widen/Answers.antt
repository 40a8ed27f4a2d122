use Rattle.std.proofs.Common.{arith}
use Rattle.envelope_core.specs.Laws.{departure, arrival}
use Rattle.envelope_core.proofs.Windows.{Keeps-delayed}
use Rattle.envelope_core.proofs.laws.delays_widen.Goals as goal

pub returns : goal.returns
returns c = λ curve floor jitter journeys within kept.
    Keeps-delayed departure arrival floor jitter curve.rate curve.burst journeys (λ k d h some. let w = within k d h in (omega arith, omega arith, omega arith)) kept
