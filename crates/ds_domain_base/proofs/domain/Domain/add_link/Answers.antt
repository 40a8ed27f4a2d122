use Rattle.std.proofs.Common.{rules, sym, ap, is_some, ◌∙◌}
use Rattle.ds_domain_base.proofs.DomainLaws.{link_put}
use Rattle.ds_domain_base.proofs.domain.Domain.add_link.Goals as goal

pub invariant_of-self-2 : goal.invariant_of-self-2
invariant_of-self-2 c =
    (link_put _ _ _ c.args.from.now c.args.to.now c.in-Some.from c.in-Some-meter_named.to c.args.link c.self.view_is c.self.invariant (search rules)
    (sym c.place_named.ensures ∙ c.in-Some.is) (sym c.meter_named.ensures ∙ c.in-Some-meter_named.is)
    (ap is_some (sym c.link.ensures) ∙ sym c.is_some.ensures ∙ c.if-is_some.false) c.in_ok-insert.ensures.entries).0

pub returns-clause-added : goal.returns-clause-added
returns-clause-added c =
    (link_put _ _ _ c.args.from.now c.args.to.now c.in-Some.from c.in-Some-meter_named.to c.args.link c.self.view_is c.self.invariant (search rules)
    (sym c.place_named.ensures ∙ c.in-Some.is) (sym c.meter_named.ensures ∙ c.in-Some-meter_named.is)
    (ap is_some (sym c.link.ensures) ∙ sym c.is_some.ensures ∙ c.if-is_some.false) c.in_ok-insert.ensures.entries).1
