use Rattle.std.proofs.Common.{arith, refl, sym, ◌∙◌, ap}
use Rattle.std.proofs.lemmas.Result.{err_from_is_err_and}
use Rattle.pcapng_capture.specs.Grammar.{blocks, prepend, size_of}
use Rattle.pcapng_capture.proofs.GrammarLaws.{next_partial}
use Rattle.pcapng_capture.proofs.ReadingLaws.{kept_waiting, size_stops}
use Rattle.pcapng_capture.proofs.reads.read_on.Goals as goal

pub returns-in_err-size-clause-err : goal.returns-in_err-size-clause-err
returns-in_err-size-clause-err c =
    let p = err_from_is_err_and c.from_residual.result c.from_residual.ensures.1 in
    rw (p.1, p.2) (size_stops c.args.rest.now 0 c.args.section.now c.args.out.now (prepend c.args.out.now (blocks c.args.section.now c.args.rest.now)) refl
    c.as_slice.result.now c.in_err-size.field-0.0 c.as_slice.ensures c.in_err-size.ensures)

pub returns-then-branch-clause-ok : goal.returns-then-branch-clause-ok
returns-then-branch-clause-ok c =
    let section = c.args.section.now in
    let rest = c.args.rest.now in
    let short = c.if-branch.true in
    let waits = next_partial section rest c.in_ok-size.field-0
    (sym (c.in_ok-size.ensures ∙ ap (size_of section) c.as_slice.ensures)) (omega (arith, short, c.len.ensures)) in
    kept_waiting section rest c.args.out.now (prepend c.args.out.now (blocks section rest)) waits refl
