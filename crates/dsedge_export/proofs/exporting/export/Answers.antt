use Rattle.dsedge_texts.proofs.FittingLaws.{parse_of-fits}
use Rattle.dsedge_export.proofs.exporting.export.Goals as goal

pub export_named-requires : goal.export_named-requires
export_named-requires c = parse_of-fits c.args.text.now (c.in-Ok.domain, c.in-Ok.contracts.items) c.in-Ok.ensures.ok
