use Rattle.dsedge_texts.proofs.FittingLaws.{parse_of-fits}
use Rattle.dsedge_texts.proofs.certifying.certify.Goals as goal

pub least_text-requires : goal.least_text-requires
least_text-requires c = rw c.as_slice.ensures.value (parse_of-fits c.args.text.now (c.in-Ok.domain, c.in-Ok.contracts.items) c.in-Ok.ensures.ok)
