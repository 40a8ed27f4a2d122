use Rattle.std.proofs.Common.{◌≡◌, ◌+◌, ◌++◌, ◌∷◌, List, [], below_more, ap, map, sym, ◌∙◌, arith}
use Rattle.std.specs.List.{range_with_len}
use Rattle.std.proofs.lemmas.List.FromFn.{map-range_with_len_more}
use Rattle.ds_conductor_base.specs.Ways.{stops_at, Stop}
use Rattle.ds_conductor_base.proofs.WayLaws.{are_near, are_ways}
use Rattle.ds_conductor_base.proofs.way.all_stops.Goals as goal

pub loop-flow-preserved : goal.loop-flow-preserved
loop-flow-preserved c =
    let next : 0 + c.loop-flow.flow ≡ c.loop-flow.flow = omega arith in
    let pushed = ◌∙◌ {A = List (List Stop)} c.in_ok-push.ensures.items (ap (λ ways. ways ++ c.in_ok-way_at.field-0 ∷ []) c.loop-flow.invariant.ways) in
    record {
      ways = ◌∙◌ {A = List (List Stop)} pushed
          (◌∙◌ {A = List (List Stop)} (ap (λ way. map (stops_at c.args.accepted.now) (range_with_len 0 c.loop-flow.flow) ++ way ∷ []) c.in_ok-way_at.ensures.value)
          (sym (map-range_with_len_more (stops_at c.args.accepted.now) 0 c.loop-flow.flow c.loop-flow.flow next)));
      reach = below_more _ _ c.loop-flow.invariant.reach c.in_ok-way_at.ensures.reach;
    }

pub returns-clause-ways : goal.returns-clause-ways
returns-clause-ways c = are_ways c.args.accepted.now c.loop-flow.ways.items c.loop-flow.flow c.loop-flow.invariant.ways (omega (arith, c.loop-flow-test.false, c.flow_count-count.ensures.value))

pub returns-clause-reach : goal.returns-clause-reach
returns-clause-reach c = are_near c.args.accepted.now c.loop-flow.flow c.loop-flow.invariant.reach (omega (arith, c.loop-flow-test.false, c.flow_count-count.ensures.value))
