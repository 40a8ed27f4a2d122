use Rattle.std.proofs.Common.{◌≤◌, ◌^◌, length, arith, ◌++◌, ap, subst, sym, inl, inr, refl, Err, ◌∙◌}
use Rattle.ds_conditioner.specs.Conditionings.{see_at}
use Rattle.capture_reader.specs.Formats.{bytes_before}
use Rattle.ds_marking.specs.Markings.{IsVerdictOn, answer_of, is_unread}
use Rattle.ds_conditioner.specs.Sendings.{sent_of}
use Rattle.ds_conditioner.specs.Texts.{text_from}
use Rattle.ds_conditioner.proofs.ConditionLaws.{ended}
use Rattle.ds_marking.proofs.VerdictLaws.{front_last, judged_by}
use Rattle.ds_marking.proofs.PassingLaws.{answer_unread, broken_off}
use Rattle.ds_marking.proofs.WritingLaws.{written_whole}
use Rattle.ds_marking.proofs.marking.finish.Goals as goal

pub returns-in-Ok-clause-marked : goal.returns-in-Ok-clause-marked
returns-in-Ok-clause-marked g c = λ tells frames text before at written.
    let p = c.args.port.now in
    let last = c.in-Ok.ensures.bytes tells _ frames text before at written in
    let all = ended p frames last.0 c.write_on-written.new.conditioner last.1 (c.in-Ok.ensures.waiting ∙ c.requires.made.1) c.in-Ok.ensures.all.1 in
    let told = c.report-report.ensures.told frames last.0 last.1 in
    let few : length frames ≤ 2 ^ 44 = omega (arith, last.1.counted.records, c.write_on-written.ensures.bounded.records) in
    let whole = written_whole (bytes_before p.opening ++ last.0) _ before _ last.2 c.in-Ok.ensures.all.0 in
    inl (
      c.verdict-verdict.result,
      subst (IsVerdictOn p.accepted.now (sent_of (see_at p) frames)) (sym c.verdict-verdict.ensures) (judged_by p frames c.write_on-written.new.conditioner.judge last.1.judging few),
      record {
        written = whole ∙ ap (λ it. before ++ (bytes_before p.opening ++ it)) (all.written ∙ ap (text_from p.accepted.now p.red 0 frames) all.whole);
        told = refl;
      },
      c.answer.ensures ∙ ap (λ r. answer_of c.verdict-verdict.result r c.args.fault) told,
    )

pub returns-in-Err-clause-marked : goal.returns-in-Err-clause-marked
returns-in-Err-clause-marked g c = λ tells frames text before at written.
    let p = c.args.port.now in
    let last = c.in-Err.ensures.bytes tells _ frames text before at written in
    let told = c.report-report.ensures.told frames last.0 last.1 in
    inr (c.in-Err.unwritten, c.in-Err.ensures.fault, front_last p frames last.0 before _ c.write_on-written.new.conditioner last.1 last.2, ap (λ r. Err (r, c.in-Err.unwritten)) told)

pub returns-in-Ok-clause-told : goal.returns-in-Ok-clause-told
returns-in-Ok-clause-told g c = λ whole. ap is_unread c.answer.ensures ∙ answer_unread c.verdict-verdict.result c.report-report.result c.args.fault

pub returns-in-Err-clause-told : goal.returns-in-Err-clause-told
returns-in-Err-clause-told g c = λ whole. let no = sym (broken_off c.report-report.result c.in-Err.unwritten c.in-Err.ensures.fault) ∙ whole in absurd cc
