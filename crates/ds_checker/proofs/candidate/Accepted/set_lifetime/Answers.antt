use Rattle.std.proofs.Common.{rules, ap, map, set, sym, ◌∙◌}
use Rattle.std.specs.Arc.{arc_value}
use Rattle.ds_checker.proofs.LifetimeLaws.{lasting-set, sound-lasting, table-lasting}
use Rattle.ds_checker.proofs.HeldLaws.{routes-lasting}
use Rattle.ds_domain_base.specs.Routes.{route_of}
use Rattle.ds_checker.proofs.candidate.Accepted.set_lifetime.Goals as goal

pub invariant_of-self : goal.invariant_of-self
invariant_of-self c = record {
  sound = (
      sound-lasting (arc_value c.self.inside.domain) c.self.inside.contracts.items _ c.self.inside.certificate c.self.inside.sums.items c.args.index c.args.lifetime c.index_mut.result.now
      (search rules) c.index_mut.ensures.value (ap (set c.self.inside.contracts.items c.args.index) c.set_lifetime.ensures) c.self.invariant.sound
      );
  routes = c.self.invariant.routes
      ∙ sym (ap (map (route_of (arc_value c.self.inside.domain))) (ap (set c.self.inside.contracts.items c.args.index) c.set_lifetime.ensures ∙ lasting-set c.self.inside.contracts.items c.args.index c.args.lifetime c.index_mut.result.now (search rules) c.index_mut.ensures.value)
      ∙ routes-lasting (arc_value c.self.inside.domain) c.self.inside.contracts.items c.args.index c.args.lifetime);
}

pub returns-clause-set : goal.returns-clause-set
returns-clause-set c =
    table-lasting (arc_value c.self.inside.domain) c.self.inside.contracts.items _ c.self.inside.certificate c.args.index c.args.lifetime c.index_mut.result.now c.args.self.now
    (search rules) c.index_mut.ensures.value (ap (set c.self.inside.contracts.items c.args.index) c.set_lifetime.ensures) c.self.view_is
