use Rattle.std.proofs.Common.{◌≡◌, ◌+◌, ◌++◌, ◌∷◌, [], ap, map, sym, ◌∙◌, arith}
use Rattle.std.specs.List.{range_with_len}
use Rattle.std.proofs.lemmas.List.FromFn.{map-range_with_len_more}
use Rattle.ds_conductor_base.specs.Passing.{meter_at}
use Rattle.ds_conductor_base.proofs.meters.opened_meters.Goals as goal

pub loop-site-preserved : goal.loop-site-preserved
loop-site-preserved c =
    let next : 0 + c.loop-site.site ≡ c.loop-site.site = omega arith in
    let pushed = c.in_ok-push.ensures.items ∙ ap (λ meters. meters ++ c.opened_meter.result ∷ []) c.loop-site.invariant in
    pushed ∙ ap (λ meter. map (meter_at c.args.accepted.now) (range_with_len 0 c.loop-site.site) ++ meter ∷ []) c.opened_meter.ensures ∙ sym (map-range_with_len_more (meter_at c.args.accepted.now) 0 c.loop-site.site c.loop-site.site next)
