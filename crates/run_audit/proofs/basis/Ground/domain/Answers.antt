use Rattle.run_audit.proofs.BasisLaws.{line_granted, table_granted}
use Rattle.run_audit.proofs.basis.Ground.domain.Goals as goal

pub returns-in-Table-clause-granted : goal.returns-in-Table-clause-granted
returns-in-Table-clause-granted c = rw c.in-Table.is (table_granted c.in-Table.accepted.now c.domain.ensures.acceptable)

pub returns-in-Line-clause-granted : goal.returns-in-Line-clause-granted
returns-in-Line-clause-granted c =
    rw c.in-Line.is (line_granted c.in-Line.timeline.now c.domain-in-Line.ensures.covered c.domain-in-Line.ensures.rated)
