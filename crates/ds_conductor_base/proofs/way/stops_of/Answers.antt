use Rattle.std.proofs.Common.{length, ◌+◌, ◌*◌, ◌^◌, ◌≤◌, ◌++◌, ◌∷◌, [], List, arith, ap, subst, sym, ◌∙◌}
use Rattle.std.proofs.lemmas.List.Elements.{All-push, All-same}
use Rattle.std.proofs.lemmas.List.{drop_all}
use Rattle.ds_domain_base.specs.Routes.{AreInside, Route}
use Rattle.ds_domain_base.specs.declared.route.Leg.{Leg}
use Rattle.ds_checker.proofs.WalkLaws.{inside-at}
use Rattle.meter_fabric_base.proofs.WayLaws.{legs_low}
use Rattle.ds_conductor_base.specs.Ways.{Stop, edge_stops, stops_on}
use Rattle.ds_conductor_base.proofs.StopLaws.{stop_more, stops_on-along, stops_on-none}
use Rattle.ds_conductor_base.proofs.way.stops_of.Goals as goal

abbrev AreNearAt : Stop → Type 0
AreNearAt stop = stop.delay ≤ 16 * 10 ^ 10

pub overflow_cast-site : goal.overflow_cast-site
overflow_cast-site c =
    let own = c.args.contract.now in
    let legs = c.legs-legs.ensures.value ∙ ap (λ (r : Route). r.legs) c.requires.route in
    let low : AreInside (2 ^ 32) c.legs-legs.result.now =
    subst (λ ls. AreInside (2 ^ 32) ls) (sym legs) (legs_low c.args.domain.now own.port own.path c.meters-meters.ensures.kept.few_meters) in
    let here = inside-at (2 ^ 32) c.legs-legs.result.now c.loop-leg.leg-index c.leg-item.result low c.loop-leg-test.true c.leg-item.is in
    grind (arith, here)

pub loop-leg-preserved : goal.loop-leg-preserved
loop-leg-preserved c = record {
  counted = omega arith;
  reached = omega (arith, c.loop-leg.invariant.reached, c.longer-delay.ensures, c.gap.ensures.range);
  near = All-same AreNearAt _ _ c.in_ok-push-2.ensures.items (All-push AreNearAt c.loop-leg.stops.items _ c.loop-leg.invariant.near
      (omega (
        arith,
        ap (λ (s : Stop). s.delay) c.new-in-loop-leg.ensures,
        c.loop-leg.invariant.reached,
        c.longer-delay.ensures,
        c.gap.ensures.range,
        c.legs-legs.ensures.kept.few,
        ap length c.legs-legs.ensures.value,
        c.loop-leg-test.true,
      )));
  value = stop_more c.loop-leg.stops.items c.push-in-loop-leg.new.self.items _ (c.loop-leg.number + 1) c.loop-leg.leg-index c.leg-item.result c.loop-leg.delay c.longer-delay.result
      c.legs-legs.result.now c.loop-leg-test.true c.leg-item.is (c.longer-delay.ensures ∙ ap (λ floor. c.loop-leg.delay + floor) c.gap.ensures.value)
      (c.in_ok-push-2.ensures.items ∙ ap (λ (s : Stop). c.loop-leg.stops.items ++ s ∷ []) c.new-in-loop-leg.ensures) c.loop-leg.invariant.value;
}

pub returns-clause-value : goal.returns-clause-value
returns-clause-value c =
    let own = c.args.contract.now in
    let legs = c.legs-legs.ensures.value ∙ ap (λ (r : Route). r.legs) c.requires.route in
    let edge = edge_stops c.args.domain.now c.args.flow own.terms in
    let ended = drop_all c.loop-leg.leg-index c.legs-legs.result.now (omega arith) in
    sym (stops_on-none c.loop-leg.stops.items (c.loop-leg.number + 1) c.loop-leg.delay)
    ∙ sym (ap (λ (rest : List Leg). c.loop-leg.stops.items ++ stops_on (c.loop-leg.number + 1) c.loop-leg.delay rest) ended)
    ∙ c.loop-leg.invariant.value
    ∙ ap (λ (ls : List Leg). edge ++ stops_on 1 0 ls) legs
    ∙ ap (λ (stops : List Stop). edge ++ stops) (stops_on-along c.args.domain.now 1 own.port 0 own.path)
