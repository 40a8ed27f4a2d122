use Rattle.std.proofs.Common.{◌≡◌, ◌+◌, ◌-◌, ap, arith, refl}
use Rattle.moment_core.proofs.MeteringLaws.{drawn, fills}
use Rattle.moment_core.specs.declared.filling.Filling.{Filling}
use Rattle.moment_core.specs.Metering.{filled}
use Rattle.moment_core.specs.Tokens.{with_tokens}
use Rattle.srtcm_core.proofs.SingleRateLaws.{committed_filled, excess_level, gained}
use Rattle.srtcm_core.specs.SingleRate.{single_rate}
use Rattle.srtcm_core.specs.declared.meter.SingleRate.{SingleRate}
use Rattle.srtcm_core.proofs.meter.SingleRateKind.fill_over.Goals as goal

pub returns : goal.returns
unfolding filled
returns c m arrival begun same span =
    let own = ap (λ (b : SingleRate). b.committed) same in
    let committed = fills single_rate _ _ _ committed_filled m arrival _ _ _ begun own span c.fill_over-surplus.ensures.filled in
    let tokens = drawn m _ _ _ arrival c.args.gap c.args.self.now.committed begun own span in
    let surplus : c.fill_over-surplus.result ≡ m.levels.committed + gained m arrival - with_tokens m.parameters.committed_burst (gained m arrival) m.levels.committed =
    omega (
      arith,
      c.fill_over-surplus.ensures.surplus,
      tokens,
      committed_filled m arrival,
      ap (λ (f : Filling). f.bucket.level) own,
      ap (λ (f : Filling). f.bucket.level) committed,
    )
    in
    rw (committed, c.refill.ensures.level, c.refill.ensures.size, same, excess_level m arrival, surplus) refl
