use Rattle.std.proofs.Common.{ap, refl}
use Rattle.moment_core.proofs.MeteringLaws.{fills}
use Rattle.moment_core.specs.Metering.{filled}
use Rattle.rfc4115_core.proofs.SeparateRatesLaws.{committed_filled, excess_filled}
use Rattle.rfc4115_core.specs.SeparateRates.{separate_rates}
use Rattle.rfc4115_core.specs.declared.meter.SeparateRates.{SeparateRates}
use Rattle.rfc4115_core.proofs.meter.SeparateRatesKind.fill_over.Goals as goal

pub returns : goal.returns
unfolding filled
returns c m arrival begun same span =
    let committed = fills separate_rates _ _ _ committed_filled m arrival _ _ _ begun (ap (λ (b : SeparateRates). b.committed) same) span c.fill_over.ensures.filled in
    let excess = fills separate_rates _ _ _ excess_filled m arrival _ _ _ begun (ap (λ (b : SeparateRates). b.excess) same) span c.fill_over-2.ensures.filled in
    rw (committed, excess) refl
