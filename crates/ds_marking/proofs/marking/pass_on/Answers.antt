use Rattle.std.proofs.Common.{◌++◌, Option, None, Some, inr, refl, sym, ap, subst, ◌∙◌, append_assoc}
use Rattle.std.proofs.lemmas.Result.{err_from_is_err_and}
use Rattle.capture_reader.specs.declared.opening.Opening.{Opening}
use Rattle.capture_reader.specs.Readings.{IsReading}
use Rattle.ds_marking.proofs.PassingLaws.{ended_last, ended_reads, ended_turned, ended_unwritten, ended_well, front_written, starved_off, unwritten_off}
use Rattle.capture_reader.proofs.ReadingLaws.{front_read}
use Rattle.ds_marking.proofs.marking.pass_on.Goals as goal

pub returns-in_default-clause-turned : goal.returns-in_default-clause-turned
returns-in_default-clause-turned g c = λ tells bytes more before text gone head at conditioned written.
    let p = c.args.passage.now.port in
    let read = front_read gone bytes more c.args.passage.now.progress p.opening c.args.read head at in
    let seen = c.in_default.ensures.unseen gone text conditioned in
    starved_off p bytes more before _ text (gone ++ c.args.passage.now.progress.piece) (gone ++ seen.0) seen.1 c.see_read.new.conditioner read
    (ap (λ fs. gone ++ fs) seen.2 ∙ sym (append_assoc gone seen.0 seen.1)) seen.3
    (front_written _ c.args.passage.now.out.items before _ written)

pub returns-in_err-write_due-in-Ok-true-clause-turned : goal.returns-in_err-write_due-in-Ok-true-clause-turned
returns-in_err-write_due-in-Ok-true-clause-turned g c = λ tells bytes more before text gone head at conditioned written.
    let p = c.args.passage.now.port in
    let under = rw c.in-Ok-true.field-0-test at (rw c.in-Ok-true.is at at) in
    let frames = c.args.passage.now.progress.piece in
    let last = c.in_err-write_due-in-Ok-true.ensures.bytes tells _ text before (c.in-Ok.ensures.seen gone text conditioned) written in
    let q = err_from_is_err_and c.from_residual.result c.from_residual.ensures.1 in
    rw (q.1, q.2) (unwritten_off p gone bytes more before _ last.0 c.args.passage.now.progress frames c.write_due.new.conditioner _ head under refl last.1 last.2)

pub returns-in_ok-write_due-in-Ok-true-clause-turned : goal.returns-in_ok-write_due-in-Ok-true-clause-turned
returns-in_ok-write_due-in-Ok-true-clause-turned g c = λ tells bytes more before text gone head at conditioned written.
    let under = rw c.in-Ok-true.field-0-test at (rw c.in-Ok-true.is at at) in
    let last = c.in_ok-write_due-in-Ok-true.ensures.bytes tells _ text before (c.in-Ok.ensures.seen gone text conditioned) written in record {
      frames = gone ++ c.args.passage.now.progress.piece;
      text = last.0;
      underway = c.see_read.ensures.read gone bytes more under;
      headed = c.see_read.ensures.opening ∙ head;
      conditioned = last.1;
      written = last.2;
    }

pub returns-in-Ok-false-clause-turned : goal.returns-in-Ok-false-clause-turned
returns-in-Ok-false-clause-turned g c = λ tells bytes more before text gone head at conditioned written.
    let over = rw c.in-Ok-false.field-0-test at (rw c.in-Ok-false.is at at) in
    let frames = gone ++ c.args.passage.now.progress.piece in record {
      frames = frames;
      text = text;
      well = λ e. cc;
      writable = λ e. cc;
      ended = subst (λ (h : Option Opening). IsReading bytes more h frames None) head over;
      conditioned = c.in-Ok.ensures.seen gone text conditioned;
      written = written;
    }

pub returns-in-Err-clause-read : goal.returns-in-Err-clause-read
returns-in-Err-clause-read g c = λ more. absurd (ended_last c.in-Err.fault (sym c.ended_by.ensures ∙ more))

pub returns-in-Err-clause-turned : goal.returns-in-Err-clause-turned
returns-in-Err-clause-turned g c = λ tells bytes more before text gone head at conditioned written.
    let p = c.args.passage.now.port in
    let fault = c.in-Err.fault in
    let read = front_read gone bytes more c.args.passage.now.progress p.opening c.args.read head at in
    let over = rw c.in-Err.is at at in
    let frames = gone ++ c.args.passage.now.progress.piece in
    rw c.ended_by.ensures (ended_turned p bytes more before _ text frames fault _ c.see_read.new.conditioner c.args.passage.now.out.items read (λ e. c.requires.no_write (c.in-Err.is ∙ e))
    (subst (λ (h : Option Opening). IsReading bytes more h frames (Some fault)) head over)
    (c.in-Ok.ensures.seen gone text conditioned) written)

pub returns-in-Err-clause-reads : goal.returns-in-Err-clause-reads
returns-in-Err-clause-reads g c = λ failed now calls reads. rw c.ended_by.ensures (ended_reads c.in-Err.fault failed now calls (rw c.in-Err.is at reads))

pub returns-in-Err-clause-fault : goal.returns-in-Err-clause-fault
returns-in-Err-clause-fault g c = rw c.ended_by.ensures (ended_well c.in-Err.fault (λ e. c.requires.no_write (c.in-Err.is ∙ e)))

pub returns-in-Err-clause-failures : goal.returns-in-Err-clause-failures
returns-in-Err-clause-failures g c = rw (c.ended_by.ensures, ended_unwritten c.in-Err.fault) refl

pub returns-in_default-clause-read : goal.returns-in_default-clause-read
returns-in_default-clause-read g c = λ is. absurd cc

pub returns-in_default-clause-reads : goal.returns-in_default-clause-reads
returns-in_default-clause-reads g c = λ failed now calls reads. tt

pub returns-in_default-clause-fault : goal.returns-in_default-clause-fault
returns-in_default-clause-fault g c = inr refl

pub returns-in_err-write_due-in-Ok-true-clause-still : goal.returns-in_err-write_due-in-Ok-true-clause-still
returns-in_err-write_due-in-Ok-true-clause-still g c = record {
  missing = c.see_read.ensures.missing;
  bounded = c.write_due.ensures.bounded;
  port = refl;
}

pub returns-in_err-write_due-in-Ok-true-clause-reads : goal.returns-in_err-write_due-in-Ok-true-clause-reads
returns-in_err-write_due-in-Ok-true-clause-reads g c = λ failed now calls reads.
    let q = err_from_is_err_and c.from_residual.result c.from_residual.ensures.1 in rw q.1 tt

pub returns-in_err-write_due-in-Ok-true-clause-fault : goal.returns-in_err-write_due-in-Ok-true-clause-fault
returns-in_err-write_due-in-Ok-true-clause-fault g c =
    let q = err_from_is_err_and c.from_residual.result c.from_residual.ensures.1 in rw (q.1, q.2) c.in_err-write_due-in-Ok-true.ensures.fault

pub returns-in_err-write_due-in-Ok-true-clause-failures : goal.returns-in_err-write_due-in-Ok-true-clause-failures
returns-in_err-write_due-in-Ok-true-clause-failures g c =
    let q = err_from_is_err_and c.from_residual.result c.from_residual.ensures.1 in rw (q.1, q.2) c.in_err-write_due-in-Ok-true.ensures.failures

pub returns-in_ok-write_due-in-Ok-true-clause-still : goal.returns-in_ok-write_due-in-Ok-true-clause-still
returns-in_ok-write_due-in-Ok-true-clause-still g c = record {
  missing = c.see_read.ensures.missing;
  bounded = c.write_due.ensures.bounded;
  port = refl;
}

pub returns-in_ok-write_due-in-Ok-true-clause-reads : goal.returns-in_ok-write_due-in-Ok-true-clause-reads
returns-in_ok-write_due-in-Ok-true-clause-reads g c = λ failed now calls reads. rw c.in-Ok-true.is at reads

pub returns-in_ok-write_due-in-Ok-true-clause-fault : goal.returns-in_ok-write_due-in-Ok-true-clause-fault
returns-in_ok-write_due-in-Ok-true-clause-fault g c = (λ e. cc, λ e. cc)

pub returns-in-Ok-false-clause-reads : goal.returns-in-Ok-false-clause-reads
returns-in-Ok-false-clause-reads g c = λ failed now calls reads. rw c.in-Ok-false.is at reads

pub returns-in-Ok-false-clause-fault : goal.returns-in-Ok-false-clause-fault
returns-in-Ok-false-clause-fault g c = (λ e. cc, λ e. cc)
