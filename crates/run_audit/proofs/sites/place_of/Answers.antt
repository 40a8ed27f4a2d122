use Rattle.std.proofs.Common.{◌∙◌}
use Rattle.run_audit.proofs.JournalLaws.{place_shown}
use Rattle.run_audit.proofs.sites.place_of.Goals as goal

pub returns-in-None : goal.returns-in-None
returns-in-None c = c.place_among.ensures ∙ place_shown (λ j. j.site) c.args.site c.args.journals.now
