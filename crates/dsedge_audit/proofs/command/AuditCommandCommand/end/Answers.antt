use Rattle.std.proofs.Common.{◌≡◌, ap, subst, sym, ◌∙◌}
use Rattle.ds_runs.specs.Conducting.{run_so_far}
use Rattle.dsedge_lines.specs.Answers.{AnswersAll, behind}
use Rattle.dsedge_audit.specs.Audited.{audit_of}
use Rattle.dsedge_audit.proofs.AuditLaws.{last_line}
use Rattle.dsedge_audit.proofs.command.AuditCommandCommand.end.Goals as goal

pub returns-clause-answer : goal.returns-clause-answer
returns-clause-answer c =
    let own = c.args.self.now in
    let table : c.accepted-accepted.result.now ≡ own.table = c.accepted-accepted.ensures ∙ ap (λ x. x.table) c.self.view_is in
    let run : c.in_ok-run.run'.run ≡ run_so_far own.stage = ap (λ r. r.run) c.in_ok-run.ensures in
    let asked : c.self.inside.in_json ≡ own.in_json = ap (λ x. x.in_json) c.self.view_is in
    subst (λ answer. AnswersAll (behind c.args.out.now.items answer) c.judge.new.out.items c.judge.result)
    (ap (λ t. audit_of c.self.inside.in_json t c.in_ok-run.run'.run) table
    ∙ ap (audit_of c.self.inside.in_json own.table) run
    ∙ ap (λ in_json. audit_of in_json own.table (run_so_far own.stage)) asked
    ∙ sym (last_line own.in_json own.table own.stage c.args._number))
    c.judge.ensures
