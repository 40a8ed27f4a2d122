use Rattle.dsedge_serve.specs.Marked.{marking_told}
use Rattle.dsedge_serve.proofs.TellLemmas.{told_by_lines, told_by_objects}
use Rattle.dsedge_serve.proofs.marking.tell_marking.Goals as goal

pub returns-in-Lines-clause-line : goal.returns-in-Lines-clause-line
returns-in-Lines-clause-line g c told =
    rw c.in-Lines.is (
      marking_told c.args.report.now c.in-Lines.line c.args.fault c.args.port.now,
      told_by_lines c.args.report.now c.in-Lines.line c.args.fault c.args.port.now,
      c.tell_lines.ensures.line told,
    )

pub returns-in-Object-clause-line : goal.returns-in-Object-clause-line
returns-in-Object-clause-line g c told =
    let given = c.tell_objects.ensures.line told in
    rw c.in-Object.is (given.0, told_by_objects c.args.report.now c.in-Object.line c.args.fault c.args.port.now given.0 given.1, given.2)
