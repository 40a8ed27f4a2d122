use Rattle.std.proofs.Common.{◌∙◌, ◌^◌, ap, subst, sym}
use Rattle.ds_domain_base.specs.Routes.{AreInside, Route}
use Rattle.meter_fabric_base.proofs.WayLaws.{legs_low, policed_way, trusted_way}
use Rattle.meter_fabric_base.proofs.way.Way.of.Goals as goal

pub with_legs-requires-clause-inside : goal.with_legs-requires-clause-inside
with_legs-requires-clause-inside c =
    let legs = c.legs-legs.ensures.value ∙ ap (λ (r : Route). r.legs) c.requires.route in
    subst (λ ls. AreInside (2 ^ 32) ls) (sym legs) (legs_low c.args.domain.now c.args.contract.now.port c.args.contract.now.path c.meters-meters.ensures.kept.few_meters)

pub with_legs-requires-in-Some-clause-inside : goal.with_legs-requires-in-Some-clause-inside
with_legs-requires-in-Some-clause-inside c =
    let legs = c.legs-legs.ensures.value ∙ ap (λ (r : Route). r.legs) c.requires.route in
    subst (λ ls. AreInside (2 ^ 32) ls) (sym legs) (legs_low c.args.domain.now c.args.contract.now.port c.args.contract.now.path c.meters-meters.ensures.kept.few_meters)

pub returns-in-None : goal.returns-in-None
returns-in-None c =
    let legs = c.legs-legs.ensures.value ∙ ap (λ (r : Route). r.legs) c.requires.route in
    trusted_way c.args.domain.now c.args.flow c.args.contract.now c.legs-legs.result.now c.with_legs.result legs c.in-None.ensures c.with_legs.ensures

pub returns-in-Some : goal.returns-in-Some
returns-in-Some c =
    let legs = c.legs-legs.ensures.value ∙ ap (λ (r : Route). r.legs) c.requires.route in
    policed_way c.args.domain.now c.args.flow c.args.contract.now c.in-Some.edge c.legs-legs.result.now c.with_legs-in-Some.result legs c.in-Some.ensures
    c.with_legs-in-Some.ensures
