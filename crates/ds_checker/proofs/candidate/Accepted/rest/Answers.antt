use Rattle.std.proofs.Common.{◌≡◌, Some, length, subst, sym, take}
use Rattle.ds_checker.specs.Besides.{IsLeft}
use Rattle.ds_checker.specs.Changes.{without_contract}
use Rattle.ds_checker.specs.Routed.{sums_on}
use Rattle.ds_checker.specs.Sums.{loads_of}
use Rattle.ds_checker.proofs.BesideLaws.{beside-made, has-places}
use Rattle.ds_checker.proofs.candidate.Accepted.rest.Goals as goal

pub left_along-left-requires-clause-places : goal.left_along-left-requires-clause-places
left_along-left-requires-clause-places c =
    has-places c.args.self.now c.sums.result.now c.args.contract.now c.args.route.now c.legs.result.now c.sums.ensures.sound c.requires.fit c.requires.route c.legs.ensures.kept c.legs.ensures.value

pub left_along-left-requires-clause-left : goal.left_along-left-requires-clause-left
left_along-left-requires-clause-left c =
    let rest = loads_of (without_contract c.args.self.now c.args.place) in (
      rest,
      subst (λ list. IsLeft (Some c.brought_by-brought.result) list rest) (sym c.sums.ensures.sound.kept.sums) c.brought_by-brought.ensures,
    )

pub invariant_of-result : goal.invariant_of-result
invariant_of-result c =
    let t = c.args.self.now in
    let rest = loads_of (without_contract t c.args.place) in
    let left = subst (λ list. IsLeft (Some c.brought_by-brought.result) list rest) (sym c.sums.ensures.sound.kept.sums) c.brought_by-brought.ensures in
    beside-made t c.sums.result.now c.sums.result.now (take (length c.args.route.now.legs) c.left_along-left.result) (Some c.args.place) c.args.contract.now c.args.route.now
    (Some c.brought_by-brought.result) c.requires.place c.sums.ensures.sound c.requires.fit c.requires.route c.sums.ensures.sound.kept.sums left
    (subst (λ legs. take (length legs) c.left_along-left.result ≡ sums_on legs rest) c.legs.ensures.value (c.left_along-left.ensures rest left))
