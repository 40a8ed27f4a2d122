use Rattle.std.proofs.Common.{ap, ◌∙◌}
use Rattle.ds_broker.specs.Entries.{last_grant_of}
use Rattle.ds_broker.proofs.NextLaws.{last-granted}
use Rattle.ds_broker.proofs.book.Book.reserve.Goals as goal

pub returns-in-Ok-clause-granted : goal.returns-in-Ok-clause-granted
returns-in-Ok-clause-granted c = c.last_grant.ensures ∙ ap last_grant_of c.in-Ok.ensures.accepted ∙ last-granted c.args.self.now c.args.contract
