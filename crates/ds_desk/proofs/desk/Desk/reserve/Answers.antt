use Rattle.std.proofs.Common.{ap, ◌∙◌}
use Rattle.ds_broker.specs.Entries.{last_grant_of}
use Rattle.ds_broker.proofs.NextLaws.{last-granted}
use Rattle.ds_desk.proofs.desk.Desk.reserve.Goals as goal

pub returns-clause-granted : goal.returns-clause-granted
returns-clause-granted g c = c.last_grant.ensures ∙ ap last_grant_of (c.self.view_is ∙ c.in-Ok.ensures.accepted) ∙ last-granted c.args.self.now c.args.contract
