use Rattle.std.proofs.Common.{refl, sym, ap, subst, ◌∙◌}
use Rattle.ds_marking.specs.Passings.{IsPassage}
use Rattle.ds_domain_base.specs.Domains.{is_port}
use Rattle.ds_marking.proofs.MarkingLaws.{marked_at, port_found, starved_marked, unheaded}
use Rattle.ds_marking.proofs.marking.begin.Goals as goal

pub returns-in-Ok-make_passage-clause-begun : goal.returns-in-Ok-make_passage-clause-begun
returns-in-Ok-make_passage-clause-begun g c = λ given held.
    let bytes = g.I.Intake.left c.args.intake.now in
    let read = c.in-Ok.ensures.read bytes given (c.begin-progress.ensures.begun bytes) in
    let there = port_found (is_port c.domain.result.now c.args.port.now) c.args.port.now c.in-Some.name c.in-Some.ensures in (
      ap (λ d. is_port d c.args.port.now) (sym c.domain.ensures.value) ∙ there.0,
      subst (λ n. IsPassage c.args.accepted.now n c.args.red bytes (g.I.Intake.left c.read_opening.new.intake) held c.in-Ok-make_passage.passage) there.1
          (c.in-Ok-make_passage.ensures.begun bytes _ held read.0 read.1),
    )

pub returns-in-Ok-clause-begun : goal.returns-in-Ok-clause-begun
returns-in-Ok-clause-begun g c = λ given held.
    let bytes = g.I.Intake.left c.args.intake.now in
    let read = c.in-Ok.ensures.read bytes given (c.begin-progress.ensures.begun bytes) in
    marked_at c.args.accepted.now c.domain.result.now c.args.port.now c.in-Some.name c.args.red bytes _ held held _ c.domain.ensures.value c.in-Some.ensures
    (starved_marked c.args.accepted.now c.in-Some.name c.args.red bytes read.0.read _ held held _ read.0.front refl c.nothing-in-Err-make_passage.ensures)

pub returns-clause-begun : goal.returns-clause-begun
returns-clause-begun g c = λ given held.
    let bytes = g.I.Intake.left c.args.intake.now in
    let read = c.in-Err.ensures.read bytes given (c.begin-progress.ensures.begun bytes) in
    marked_at c.args.accepted.now c.domain.result.now c.args.port.now c.in-Some.name c.args.red bytes _ held held _ c.domain.ensures.value c.in-Some.ensures
    (unheaded c.args.accepted.now c.in-Some.name c.args.red bytes _ held held read.0 c.in-Err.fault c.nothing-in-Err.result c.of_reading.result c.in-Err.ensures.no_write c.of_reading.ensures c.nothing-in-Err.ensures read.1 refl)
