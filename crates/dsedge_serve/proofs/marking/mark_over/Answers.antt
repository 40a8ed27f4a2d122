use Rattle.std.proofs.Common.{refl}
use Rattle.dsedge_serve.proofs.TellLemmas.{unknown_told}
use Rattle.dsedge_serve.proofs.MarkLemmas.{marked_for}
use Rattle.dsedge_serve.proofs.marking.mark_over.Goals as goal

pub returns-in-Ok-clause-served : goal.returns-in-Ok-clause-served
returns-in-Ok-clause-served g c = λ given tells. (
  (
    c.args.accepted.now,
    refl,
    marked_for c.args.marking.now.workers c.workers_for-workers.result c.args.accepted.now c.args.marking.now.port.now c.args.marking.now.red _ _ _ _ _
        c.workers_for-workers.ensures.given (c.in-Ok.ensures.marked given tells),
  ),
  c.report_text-told.ensures,
)

pub returns-in-Err-clause-served : goal.returns-in-Err-clause-served
returns-in-Err-clause-served g c = λ given tells. (
  (
    c.args.accepted.now,
    refl,
    marked_for c.args.marking.now.workers c.workers_for-workers.result c.args.accepted.now c.args.marking.now.port.now c.args.marking.now.red _ _ _ _ _
        c.workers_for-workers.ensures.given (c.in-Err.ensures.marked given tells),
  ),
  c.report_text-told-in-Err.ensures,
)

pub returns-in-Ok-clause-unknown : goal.returns-in-Ok-clause-unknown
returns-in-Ok-clause-unknown g c unknown = absurd (let e = c.in-Ok.ensures.unknown unknown in cc)

pub returns-in-Err-clause-unknown : goal.returns-in-Err-clause-unknown
returns-in-Err-clause-unknown g c unknown =
    unknown_told c.args.marking.now.in_json c.args.marking.now.has_verdict c.args.accepted.now c.in-Err.report c.in-Err.fault c.report_text-told-in-Err.result
    (c.in-Err.ensures.unknown unknown) c.report_text-told-in-Err.ensures
