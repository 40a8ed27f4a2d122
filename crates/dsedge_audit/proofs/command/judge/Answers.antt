use Rattle.std.proofs.Common.{refl}
use Rattle.std.proofs.lemmas.Result.{err_from_is_err_and}
use Rattle.dsedge_lines.specs.Answers.{behind}
use Rattle.dsedge_lines.proofs.AnswerLemmas.{BeginsWith-behind}
use Rattle.dsedge_audit.specs.Audited.{audit_of}
use Rattle.dsedge_audit.proofs.command.judge.Goals as goal

-- what was written stands
pub returns-in_err-extend_from_slice : goal.returns-in_err-extend_from_slice
returns-in_err-extend_from_slice c =
    let written = c.args.out.now.items in
    let answer = audit_of c.args.in_json c.args.accepted.now c.args.run.now.run in
    let failed = c.from_residual-in_err-extend_from_slice in
    let p = err_from_is_err_and failed.result failed.ensures.1 in
    rw p.1 (rw c.in_err-extend_from_slice.ensures.items (BeginsWith-behind written answer (behind written answer) refl))
