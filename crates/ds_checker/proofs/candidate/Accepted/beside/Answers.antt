use Rattle.std.proofs.Common.{None, ap, refl, ◌∙◌}
use Rattle.ds_checker.specs.Routed.{sums_on}
use Rattle.ds_checker.specs.Sums.{loads_of}
use Rattle.ds_checker.proofs.BesideLaws.{beside-made, has-places, none-left}
use Rattle.ds_checker.proofs.candidate.Accepted.beside.Goals as goal

pub invariant_of-sums : goal.invariant_of-sums
invariant_of-sums c =
    has-places c.args.self.now c.sums.result.now c.args.contract.now c.args.route.now c.legs.result.now c.sums.ensures.sound c.requires.fit c.requires.route c.legs.ensures.kept c.legs.ensures.value

pub invariant_of-result : goal.invariant_of-result
invariant_of-result c =
    let t = c.args.self.now in
    let sums = c.sums.result.now in
    beside-made t sums (loads_of t) (sums_on c.legs.result.now sums) None c.args.contract.now c.args.route.now None tt c.sums.ensures.sound c.requires.fit c.requires.route refl
    (none-left t sums None None refl refl c.sums.ensures.sound c.sums.ensures.few)
    (ap (λ legs. sums_on legs sums) c.legs.ensures.value ∙ ap (sums_on c.args.route.now.legs) c.sums.ensures.sound.kept.sums)
