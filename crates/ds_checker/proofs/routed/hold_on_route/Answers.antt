use Rattle.std.proofs.Common.{rules, ◌≡◌, length, drop, ◌∙◌}
use Rattle.ds_checker.proofs.HoldLaws.{hold_none}
use Rattle.ds_checker.proofs.RoutedHoldLaws.{hold-route}
use Rattle.ds_checker.proofs.routed.hold_on_route.Goals as goal

pub returns-in_default : goal.returns-in_default
returns-in_default c =
    let none : length c.args.bounds.now ≡ 0 = search rules in
    hold_none c.args.domain.now c.args.contract.now c.args.bounds.now none

pub returns : goal.returns
returns c =
    let behind : c.in-Some.behind.now ≡ drop 1 c.args.bounds.now = search rules in
    c.hold_along.ensures
    ∙ hold-route c.args.domain.now c.args.contract.now c.args.route.now c.along-source.result c.legs.result.now c.args.bounds.now c.in-Some.behind.now c.requires
    c.along-source.ensures.value c.legs.ensures.value behind
