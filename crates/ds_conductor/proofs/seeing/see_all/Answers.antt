use Rattle.std.proofs.Common.{◌∙◌}
use Rattle.rayon.proofs.ListFacts.{IfOk-then}
use Rattle.rayon.proofs.ToStd.{slice-AllZip}
use Rattle.ds_conditioner.specs.Conditionings.{IsSeenOf}
use Rattle.ds_conductor.proofs.seeing.see_all.Goals as goal

pub returns : goal.returns
returns g c =
    IfOk-then c.collect.result _ _ c.collect.ensures (λ v h.
    let chain = rw (c.with_min_len.ensures.base, c.map.ensures.base, c.map.ensures.f) at h.1 in
    rw h.2 (slice-AllZip chain.0 c.args.frames.now (chain.1 ∙ c.par_iter.ensures) (λ f s. IsSeenOf c.args.port.now f s) h.0 chain.2))
