use Rattle.std.proofs.Common.{◌≡◌, ◌+◌, ◌++◌, ◌∷◌, [], ap, map, sym, ◌∙◌, arith}
use Rattle.std.specs.List.{range_with_len}
use Rattle.std.proofs.lemmas.List.FromFn.{map-range_with_len_more}
use Rattle.meter_fabric_base.specs.Grounds.{ground_of}
use Rattle.meter_fabric_base.specs.Ways.{way_at}
use Rattle.meter_fabric_base.proofs.way.Ways.of.Goals as goal

pub loop-flow-preserved : goal.loop-flow-preserved
loop-flow-preserved c =
    let way = way_at (ground_of c.args.accepted.now) in
    let next : 0 + c.loop-flow.flow ≡ c.loop-flow.flow = omega arith in
    c.in_ok-push.ensures.items
    ∙ ap (λ ways. ways ++ c.way_at.result ∷ []) c.loop-flow.invariant
    ∙ ap (λ hops. map way (range_with_len 0 c.loop-flow.flow) ++ hops ∷ []) c.way_at.ensures
    ∙ sym (map-range_with_len_more way 0 c.loop-flow.flow c.loop-flow.flow next)
