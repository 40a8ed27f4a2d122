use Rattle.std.proofs.Common.{refl, sym, ap, subst, ◌∙◌, length, arith, slice_get, option_to_list}
use Rattle.std.proofs.lemmas.Bool.{true≢false, false≢true}
use Rattle.ds_domain_base.specs.Routes.{AreInside, Route}
use Rattle.meter_fabric_base.specs.Sites.{hops_of}
use Rattle.meter_fabric_base.specs.Trails.{packet_of}
use Rattle.run_audit.proofs.TrailTests.{IsLeft-ended, IsLeft-next, IsLeft-none, legs_inside, way_is}
use Rattle.run_audit.proofs.soundness.is_trail.Goals as goal

pub hop_at-requires-clause-inside : goal.hop_at-requires-clause-inside
hop_at-requires-clause-inside c =
    let d = c.args.domain.now in
    let contract = c.args.contract.now in
    subst (AreInside 4294967296) (sym (c.legs.ensures.value ∙ ap (λ (r : Route). r.legs) c.requires.route)) (legs_inside d contract.port contract.path c.meters-meters.ensures.kept.few_meters)

pub returns-in_default : goal.returns-in_default
returns-in_default c =
    let r = c.receipt-item.result in
    let way = way_is c.args.domain.now c.args.trail.now.flow c.args.contract.now (option_to_list c.edge_hop-edge.result) c.legs.result.now c.edge_hop-edge.ensures
    (c.legs.ensures.value ∙ ap (λ (r : Route). r.legs) c.requires.route) in
    let next = IsLeft-next (packet_of c.args.trail.now) c.loop-place.since c.loop-place.came (hops_of c.args.domain.now c.args.trail.now.flow c.args.contract.now)
    c.args.trail.now.receipts.items c.loop-place.place c.in-Some.hop r (rw c.as_slice-receipt-items.ensures.value at c.loop-place-test.true) (rw c.as_slice-receipt-items.ensures.value at c.receipt-item.is)
    (ap (λ hops. slice_get hops c.loop-place.place) (sym way) ∙ sym c.in-Some.ensures)
    in (
      λ passed. absurd (false≢true passed),
      λ whole. absurd (true≢false (sym (c.is_receipt.ensures.1 (next.0 (c.loop-place.invariant.0 whole)).0) ∙ c.if-is_receipt.false)),
    )

pub returns-in_default-2 : goal.returns-in_default-2
returns-in_default-2 c =
    let way = way_is c.args.domain.now c.args.trail.now.flow c.args.contract.now (option_to_list c.edge_hop-edge.result) c.legs.result.now c.edge_hop-edge.ensures
    (c.legs.ensures.value ∙ ap (λ (r : Route). r.legs) c.requires.route) in (
      λ passed. absurd (false≢true passed),
      λ whole. absurd (IsLeft-none (packet_of c.args.trail.now) c.loop-place.since c.loop-place.came (hops_of c.args.domain.now c.args.trail.now.flow c.args.contract.now)
          c.args.trail.now.receipts.items c.loop-place.place (rw c.as_slice-receipt-items.ensures.value at c.loop-place-test.true)
          (ap (λ hops. slice_get hops c.loop-place.place) (sym way) ∙ sym c.hop_at.ensures ∙ c.in_default.is) (c.loop-place.invariant.0 whole)),
    )

pub loop-place-preserved : goal.loop-place-preserved
loop-place-preserved c =
    let r = c.receipt-item.result in
    let way = way_is c.args.domain.now c.args.trail.now.flow c.args.contract.now (option_to_list c.edge_hop-edge.result) c.legs.result.now c.edge_hop-edge.ensures
    (c.legs.ensures.value ∙ ap (λ (r : Route). r.legs) c.requires.route) in
    let next = IsLeft-next (packet_of c.args.trail.now) c.loop-place.since c.loop-place.came (hops_of c.args.domain.now c.args.trail.now.flow c.args.contract.now)
    c.args.trail.now.receipts.items c.loop-place.place c.in-Some.hop r (rw c.as_slice-receipt-items.ensures.value at c.loop-place-test.true) (rw c.as_slice-receipt-items.ensures.value at c.receipt-item.is)
    (ap (λ hops. slice_get hops c.loop-place.place) (sym way) ∙ sym c.in-Some.ensures)
    in (
      λ whole. (next.0 (c.loop-place.invariant.0 whole)).1,
      λ left. c.loop-place.invariant.1 (next.1 (c.is_receipt.ensures.0 c.if-is_receipt.true) left),
    )

pub returns : goal.returns
returns c = (
  λ passed. c.loop-place.invariant.1 (IsLeft-ended (packet_of c.args.trail.now) c.loop-place.since c.loop-place.came
      (hops_of c.args.domain.now c.args.trail.now.flow c.args.contract.now) c.args.trail.now.receipts.items c.loop-place.place (omega (arith, ap length c.as_slice-receipt-items.ensures.value, c.loop-place-test.false))),
  λ whole. refl,
)
