use Rattle.std.proofs.Common.{refl, sym, ◌∙◌}
use Rattle.std.proofs.lemmas.Option.{slice_get_past, slice_get_read}
use Rattle.run_audit.proofs.TrailTests.{leg_hop_at, no_hop_at}
use Rattle.run_audit.proofs.soundness.leg_hop.Goals as goal

pub returns-in_err-leg : goal.returns-in_err-leg
returns-in_err-leg c = c.from_residual.ensures ∙ sym (no_hop_at c.args.legs.now c.args.place (slice_get_past c.args.legs.now c.args.place c.in_err-leg.ensures.lookup.3))

pub returns : goal.returns
returns c =
    sym (leg_hop_at c.args.legs.now c.args.place c.in_ok-leg.leg.now
    (slice_get_read c.args.legs.now _ c.args.place c.in_ok-leg.leg.now refl c.in_ok-leg.ensures.lookup.3.0 c.in_ok-leg.ensures.lookup.1))
