use Rattle.std.proofs.Common.{ap, slice_get, ◌∙◌}
use Rattle.ds_checker.proofs.GrowthLaws.{growth-told}
use Rattle.ds_checker.proofs.headroom.growth_at.Goals as goal

pub returns-in-Some : goal.returns-in-Some
returns-in-Some c =
    growth-told (slice_get c.args.domain.now.meters c.args.place) (c.in-Some.field-0-0.now, c.in-Some.meter.now) c.args.loads.now c.with-one.result c.with-two.result c.args.share.now
    c.headroom_at.result c.headroom_at-in-Some.result
    (c.in-Some.ensures.entry ∙ ap (λ entries. slice_get entries c.args.place) c.meters.ensures.entries) c.with-one.ensures.value c.with-two.ensures.value
    c.headroom_at.ensures c.headroom_at-in-Some.ensures
