use Rattle.std.proofs.Common.{◌∙◌, refl}
use Rattle.dsedge_serve.specs.Marked.{marking_told}
use Rattle.dsedge_faults.proofs.FrontLemmas.{given_as, given_or_front}
use Rattle.dsedge_serve.proofs.marking.tell_lines.Goals as goal

-- what was put together in memory is what is told
pub returns-in-Ok-clause-line : goal.returns-in-Ok-clause-line
returns-in-Ok-clause-line g c told =
    let before = g.F.Outlet.held c.args.faults.now in
    let after = g.F.Outlet.held c.give_all.new.outlet in
    let line = marking_told c.args.report.now c.args.line.now c.args.fault c.args.port.now in
    given_as c.give_all.result before after c.as_slice.result.now line
    (c.as_slice.ensures.value ∙ c.in-Ok.ensures.line tt ∙ rw (c.new-text.ensures.bytes, c.new.ensures.items) refl)
    (given_or_front c.give_all.result before after c.as_slice.result.now (c.give_all.ensures.bytes told))
