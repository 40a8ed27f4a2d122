use Rattle.dsedge_texts.proofs.FittingLaws.{parse_of-fits}
use Rattle.dsedge_draw.proofs.drawing.draw.Goals as goal

pub draw_least-requires : goal.draw_least-requires
draw_least-requires c = parse_of-fits c.args.text.now (c.in-Ok.domain, c.in-Ok.contracts.items) c.in-Ok.ensures.ok
