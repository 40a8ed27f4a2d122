use Rattle.std.proofs.Common.{ℕ, ◌++◌, Some, Err, refl}
use Rattle.pcap_capture.proofs.CountLaws.{answer_reads}
use Rattle.dsedge_lines.specs.Underway.{lines_with}
use Rattle.dsedge_lines.proofs.engine.answer_next.Goals as goal

pub returns-in_default-clause-told : goal.returns-in_default-clause-told
returns-in_default-clause-told g c = c.take.ensures.told

pub returns-in_default-clause-reads : goal.returns-in_default-clause-reads
returns-in_default-clause-reads g c =
    answer_reads {T = ℕ} (Err c.in_default.field-0) _ _ _ _ c.in_default.ensures.failures c.in_default.ensures.spent c.in_default.ensures.no_more

pub returns-in_default-clause-input : goal.returns-in_default-clause-input
returns-in_default-clause-input g c = refl

pub returns-in_default-clause-number : goal.returns-in_default-clause-number
returns-in_default-clause-number g c = tt

pub returns-in_default-clause-carried : goal.returns-in_default-clause-carried
returns-in_default-clause-carried g c = tt

pub returns-in-Ok-answer_end-clause-told : goal.returns-in-Ok-answer_end-clause-told
returns-in-Ok-answer_end-clause-told g c = c.take.ensures.told

pub returns-in-Ok-answer_end-clause-reads : goal.returns-in-Ok-answer_end-clause-reads
returns-in-Ok-answer_end-clause-reads g c = c.in-Ok.ensures.failures

pub returns-in-Ok-answer_end-clause-input : goal.returns-in-Ok-answer_end-clause-input
returns-in-Ok-answer_end-clause-input g c = refl

pub returns-in-Ok-answer_end-clause-number : goal.returns-in-Ok-answer_end-clause-number
returns-in-Ok-answer_end-clause-number g c = tt

pub returns-in-Ok-answer_end-clause-carried : goal.returns-in-Ok-answer_end-clause-carried
returns-in-Ok-answer_end-clause-carried g c = tt

pub returns-in-Err-clause-told : goal.returns-in-Err-clause-told
returns-in-Err-clause-told g c = c.take.ensures.told

pub returns-in-Err-clause-reads : goal.returns-in-Err-clause-reads
returns-in-Err-clause-reads g c = c.in-Ok.ensures.failures

pub returns-in-Err-clause-input : goal.returns-in-Err-clause-input
returns-in-Err-clause-input g c = refl

pub returns-in-Err-clause-number : goal.returns-in-Err-clause-number
returns-in-Err-clause-number g c = tt

pub returns-in-Err-clause-carried : goal.returns-in-Err-clause-carried
returns-in-Err-clause-carried g c = tt

pub returns-in-Ok-answer_piece-clause-told : goal.returns-in-Ok-answer_piece-clause-told
returns-in-Ok-answer_piece-clause-told g c = c.take.ensures.told

pub returns-in-Ok-answer_piece-clause-reads : goal.returns-in-Ok-answer_piece-clause-reads
returns-in-Ok-answer_piece-clause-reads g c = c.in-Ok.ensures.failures

pub returns-in-Ok-answer_piece-clause-input : goal.returns-in-Ok-answer_piece-clause-input
returns-in-Ok-answer_piece-clause-input g c = refl

pub returns-in-Err-answer_piece-clause-told : goal.returns-in-Err-answer_piece-clause-told
returns-in-Err-answer_piece-clause-told g c = c.take.ensures.told

pub returns-in-Err-answer_piece-clause-reads : goal.returns-in-Err-answer_piece-clause-reads
returns-in-Err-answer_piece-clause-reads g c = c.in-Ok.ensures.failures

pub returns-in-Err-answer_piece-clause-input : goal.returns-in-Err-answer_piece-clause-input
returns-in-Err-answer_piece-clause-input g c = refl

pub returns-in-Err-answer_piece-clause-number : goal.returns-in-Err-answer_piece-clause-number
returns-in-Err-answer_piece-clause-number g c = tt

pub returns-in-Err-answer_piece-clause-carried : goal.returns-in-Err-answer_piece-clause-carried
returns-in-Err-answer_piece-clause-carried g c = tt

pub returns-in_default-clause-stands : goal.returns-in_default-clause-stands
returns-in_default-clause-stands g c = λ tells start whole front it.
    g.met.C.Command.stops start whole (Some (lines_with c.args.progress.now (g.I.Intake.left c.args.intake.now))) (front ++ c.args.progress.now.out.items) c.args.command.now it
