use Rattle.std.proofs.Common.{rules, ◌≡◌, ◌≤◌, true, false, length, sym, ◌∙◌}
use Rattle.ds_domain_base.specs.Fitting.{names_unknown}
use Rattle.ds_domain_base.proofs.RouteLaws.{IsRoute-found, back-told, found-inside, route_is}
use Rattle.ds_domain_base.proofs.domain.Domain.route.Goals as goal

pub invariant_of-result : goal.invariant_of-result
invariant_of-result c =
    let path = c.meters-path.result.now in
    let some : 1 ≤ length path = search rules in
    let few : length path ≤ 16 = search rules in
    let known : names_unknown c.args.self.now path ≡ false = sym c.found_along-found.ensures.unknown ∙ c.if-found.false in
    let once = back-told c.args.self.now c.args.contract.now.port path _ _ c.comes_back.result false c.found_along-found.ensures.legs c.as_slice.ensures.value c.comes_back.ensures known c.if-comes_back.false in
    IsRoute-found c.args.self.now c.args.contract.now.port path c.in-Some.port.skew c.found_along-found.result.legs c.found_along-found.ensures.legs some few known once

pub returns-then-comes_back : goal.returns-then-comes_back
returns-then-comes_back c =
    let path = c.meters-path.result.now in
    let known : names_unknown c.args.self.now path ≡ false = sym c.found_along-found.ensures.unknown ∙ c.if-found.false in
    let twice = back-told c.args.self.now c.args.contract.now.port path _ _ c.comes_back.result true c.found_along-found.ensures.legs c.as_slice.ensures.value c.comes_back.ensures known c.if-comes_back.true in
    search (rules, twice)

pub returns-then-found-2 : goal.returns-then-found-2
returns-then-found-2 c =
    let path = c.meters-path.result.now in
    let known : names_unknown c.args.self.now path ≡ false = sym c.found_along-found.ensures.unknown ∙ c.if-found.false in
    let once = back-told c.args.self.now c.args.contract.now.port path _ _ c.comes_back.result false c.found_along-found.ensures.legs c.as_slice.ensures.value c.comes_back.ensures known c.if-comes_back.false in
    search (rules, once)

pub returns : goal.returns
returns c =
    let path = c.meters-path.result.now in
    let known : names_unknown c.args.self.now path ≡ false = sym c.found_along-found.ensures.unknown ∙ c.if-found.false in
    let once = back-told c.args.self.now c.args.contract.now.port path _ _ c.comes_back.result false c.found_along-found.ensures.legs c.as_slice.ensures.value c.comes_back.ensures known c.if-comes_back.false in (
      search (rules, once),
      route_is c.args.self.now c.args.contract.now c.in-Some.port path c.found_along-found.result.legs (sym c.port.ensures ∙ c.in-Some.is) c.meters-path.ensures
          c.found_along-found.ensures.legs,
      found-inside c.args.self.now c.args.contract.now.port path c.found_along-found.result.legs c.found_along-found.ensures.legs known,
    )
