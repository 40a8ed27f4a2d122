use Rattle.ds_checker.proofs.BesideLaws.{has-places}
use Rattle.ds_checker.proofs.beside.Rest.beside.Goals as goal

pub invariant_of-sums : goal.invariant_of-sums
invariant_of-sums c =
    has-places c.self.inside.accepted.now c.sums.result.now c.self.inside.contract.now c.self.inside.route.now c.legs.result.now c.sums.ensures.sound c.self.invariant.fit c.self.invariant.is_route
    c.legs.ensures.kept c.legs.ensures.value
