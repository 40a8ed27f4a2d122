use Rattle.std.proofs.Common.{◌∙◌}
use Rattle.run_audit.proofs.BasisLaws.{line_route}
use Rattle.run_audit.proofs.basis.Ground.route.Goals as goal

pub returns-in-Table : goal.returns-in-Table
returns-in-Table c = rw c.in-Table.is c.routed.ensures

pub returns-in-Line : goal.returns-in-Line
returns-in-Line c = rw c.in-Line.is (c.route.ensures ∙ line_route c.in-Line.timeline.now c.args.flow)
