use Rattle.std.proofs.Common.{◌≡◌, List, Some, sym, ap, subst, ◌∙◌, arith, None, slice_get, option_copied}
use Rattle.ds_domain_base.specs.Routes.{Route, route_of}
use Rattle.ds_domain_base.specs.declared.route.Leg.{Leg}
use Rattle.ds_conductor_base.specs.Ways.{NoneNearer, stops_of}
use Rattle.ds_conductor_base.proofs.HeadStartLaws.{policed_there, trusted_nearest, trusted_none, trusted_there}
use Rattle.ds_conductor_base.proofs.way.first_delay.Goals as goal

pub returns-in-Policed-clause-greatest : goal.returns-in-Policed-clause-greatest
returns-in-Policed-clause-greatest c d flow delay is low near =
    policed_there delay d flow c.args.contract.now c.in-Policed.parameters c.in-Policed.mode c.in-Policed.is near

pub returns-in-Some-clause-holds : goal.returns-in-Some-clause-holds
returns-in-Some-clause-holds c d flow is =
    let own = c.args.contract.now in
    let there : slice_get (route_of d own).legs 0 ≡ Some c.in-Some.leg.now =
    ap (λ (r : Route). slice_get r.legs 0) (sym is) ∙ ap (λ (ls : List Leg). slice_get ls 0) (sym c.legs.ensures.value) ∙ sym c.first.ensures.value ∙ ap option_copied c.in-Some.is in
    subst (λ delay. NoneNearer delay (stops_of d flow own)) (sym c.gap.ensures.value)
    (trusted_nearest d flow own c.in_default.field-0 c.in_default.field-1 c.in_default.is c.in-Some.leg.now there)

pub returns-in-Some-clause-greatest : goal.returns-in-Some-clause-greatest
returns-in-Some-clause-greatest c d flow delay is low near =
    let own = c.args.contract.now in
    let there : slice_get (route_of d own).legs 0 ≡ Some c.in-Some.leg.now =
    ap (λ (r : Route). slice_get r.legs 0) (sym is) ∙ ap (λ (ls : List Leg). slice_get ls 0) (sym c.legs.ensures.value) ∙ sym c.first.ensures.value ∙ ap option_copied c.in-Some.is in
    let nearest = trusted_there d flow own c.in_default.field-0 c.in_default.field-1 c.in_default.is delay c.in-Some.leg.now there near in
    omega (arith, nearest, c.gap.ensures.value)

pub returns-in-None-clause-holds : goal.returns-in-None-clause-holds
returns-in-None-clause-holds c d flow is =
    let own = c.args.contract.now in
    let none : slice_get (route_of d own).legs 0 ≡ None =
    ap (λ (r : Route). slice_get r.legs 0) (sym is) ∙ ap (λ (ls : List Leg). slice_get ls 0) (sym c.legs.ensures.value) ∙ sym c.first.ensures.value ∙ ap option_copied c.in-None.is in
    trusted_none d flow own c.in_default.field-0 c.in_default.field-1 c.in_default.is c.furthest.result none
