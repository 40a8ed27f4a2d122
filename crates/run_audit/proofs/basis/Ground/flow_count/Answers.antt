use Rattle.std.proofs.Common.{◌∙◌}
use Rattle.run_audit.proofs.BasisLaws.{line_counted, table_counted, table_length}
use Rattle.run_audit.proofs.basis.Ground.flow_count.Goals as goal

pub returns-in-Table-clause-value : goal.returns-in-Table-clause-value
returns-in-Table-clause-value c = rw c.in-Table.is (c.flow_count.ensures.value ∙ table_length c.in-Table.accepted.now)

pub returns-in-Table-clause-counted : goal.returns-in-Table-clause-counted
returns-in-Table-clause-counted c = rw c.in-Table.is (table_counted c.in-Table.accepted.now)

pub returns-in-Line-clause-counted : goal.returns-in-Line-clause-counted
returns-in-Line-clause-counted c =
    rw c.in-Line.is (line_counted c.in-Line.timeline.now (rw c.reservations.ensures.value at c.reservations.ensures.numbered))
