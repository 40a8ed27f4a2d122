use Rattle.std.proofs.Common.{sym, ◌∙◌}
use Rattle.ds_domain_base.proofs.DomainLaws.{port_added}
use Rattle.ds_domain_base.proofs.domain.Domain.add_port.Goals as goal

pub returns-clause-added : goal.returns-clause-added
returns-clause-added c =
    port_added _ _ _ c.args.name c.args.port c.self.view_is (sym c.is_taken.ensures ∙ c.if-is_taken.false) c.in_ok-insert.ensures.entries
