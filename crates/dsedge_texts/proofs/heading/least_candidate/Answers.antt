use Rattle.dsedge_texts.proofs.FittingLaws.{parse_of-fits}
use Rattle.dsedge_texts.proofs.heading.least_candidate.Goals as goal

pub with_least-requires : goal.with_least-requires
with_least-requires c = parse_of-fits c.args.text.now (c.in-Ok.domain, c.in-Ok.contracts.items) c.in-Ok.ensures.ok
