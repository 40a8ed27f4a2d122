use Rattle.dsedge_texts.proofs.FittingLaws.{parse_of-fits}
use Rattle.dsedge_texts.proofs.quoting.quote.Goals as goal

pub quote_named-requires : goal.quote_named-requires
quote_named-requires c = parse_of-fits c.args.text.now (c.in-Ok.domain, c.in-Ok.contracts.items) c.in-Ok.ensures.ok
