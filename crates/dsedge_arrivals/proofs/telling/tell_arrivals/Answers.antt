use Rattle.std.proofs.Common.{[], ◌++◌, Ok, Some, None, ap, sym, subst, ◌∙◌, append-nil, arith, refl}
use Rattle.std.proofs.lemmas.Result.{OkIff-at_ok}
use Rattle.capture_reader.specs.Readings.{IsReadOn}
use Rattle.capture_reader.proofs.ReadingLaws.{front_read}
use Rattle.dsedge_arrivals.specs.Arrivals.{lines_from, newest_in}
use Rattle.dsedge_arrivals.proofs.ArrivalLaws.{broken_told, ended_told, headed_on, newest_in-append, read_headed, told_more, unheaded_told}
use Rattle.dsedge_arrivals.proofs.telling.tell_arrivals.Goals as goal

pub returns-in-Err-clause-told : goal.returns-in-Err-clause-told
returns-in-Err-clause-told g c = λ reads writes.
    let bytes = g.I.Intake.left c.args.intake.now in
    let more = g.I.Intake.left c.read_opening.new.intake in
    let before = g.O.Outlet.held c.args.output.now in
    let ended = c.in-Err.ensures.read bytes reads (c.begin-progress.ensures.begun bytes) in
    unheaded_told c.args.filter.now bytes more before ended.0 c.in-Err.fault ended.1

pub loop-fault-init : goal.loop-fault-init
unfolding newest_in lines_from
loop-fault-init g c = record {
  idle = (c.new-2.ensures.items, c.new-3.ensures);
  missing = omega (arith, c.begin-progress.ensures.missing, c.in-Ok.ensures.missing);
  told = c.in-Ok.ensures.told;
  still = λ writes. writes;
  unfailed = c.in-Ok.ensures.reads;
  unbroken = refl;
  since = λ reads writes.
      let bytes = g.I.Intake.left c.args.intake.now in
      let begun = c.in-Ok.ensures.read bytes reads (c.begin-progress.ensures.begun bytes) in
      (c.in-Ok.field-0, record { gone = []; underway = begun.0; headed = begun.1; newest_is = (OkIff-at_ok c.new.result _ _ c.unwrap.result c.new.ensures c.unwrap.ensures).1; written = sym (append-nil (g.O.Outlet.held c.args.output.now)) });
}

pub loop-fault-preserved : goal.loop-fault-preserved
loop-fault-preserved g c =
    let inv = c.loop-fault.invariant in
    record {
      idle = c.in-Ok-tell_read.ensures.idle;
      missing = omega (arith, c.tell_read.ensures.taken.missing, c.read_piece-read.ensures.missing, inv.missing);
      told = λ reads. c.read_piece-read.ensures.told (inv.told reads);
      still = λ writes. c.tell_read.ensures.told (inv.still writes);
      unfailed = c.in-Ok-true.ensures.reads ∙ inv.unfailed;
      unbroken = c.in-Ok-tell_read.ensures.failures ∙ inv.unbroken;
      since = λ reads writes.
          let bytes = g.I.Intake.left c.args.intake.now in
          let more = g.I.Intake.left c.read_piece-read.new.intake in
          let progress = c.read_piece-read.new.progress in
          let since = inv.since reads writes in
          let opening = since.0 in
          let was = since.1 in
          let at = c.in-Ok-true.ensures.read was.gone bytes (inv.told reads) was.underway in
          let headed = headed_on was.gone bytes _ opening c.loop-fault.progress progress was.underway was.headed c.read_piece-read.ensures.stays in (
            opening,
            record {
              gone = was.gone ++ progress.piece;
              underway = c.tell_read.ensures.taken.read was.gone bytes more (subst (λ b. IsReadOn was.gone bytes more progress (Ok b)) c.in-Ok-true.field-0-test at);
              headed = c.tell_read.ensures.taken.opening ∙ headed;
              newest_is = c.in-Ok-tell_read.ensures.newest ∙ ap (λ n. newest_in n progress.piece) was.newest_is ∙ sym (newest_in-append 0 was.gone progress.piece);
              written = told_more c.args.filter.now c.loop-fault.lines.newest was.gone progress.piece (g.O.Outlet.held c.args.output.now) (g.O.Outlet.held c.loop-fault.output)
                  (g.O.Outlet.held c.tell_read.new.output) was.newest_is was.written (c.in-Ok-tell_read.ensures.lines (inv.still writes));
            },
          );
    }

pub returns-in-Err-tell_read-clause-told : goal.returns-in-Err-tell_read-clause-told
returns-in-Err-tell_read-clause-told g c = λ reads writes.
    let inv = c.loop-fault.invariant in
    let bytes = g.I.Intake.left c.args.intake.now in
    let more = g.I.Intake.left c.read_piece-read.new.intake in
    let before = g.O.Outlet.held c.args.output.now in
    let after = g.O.Outlet.held c.tell_read.new.output in
    let progress = c.read_piece-read.new.progress in
    let since = inv.since reads writes in
    let opening = since.0 in
    let was = since.1 in
    let at = c.read_piece-read.ensures.read was.gone bytes (inv.told reads) was.underway in
    let headed = headed_on was.gone bytes _ opening c.loop-fault.progress progress was.underway was.headed c.read_piece-read.ensures.stays in
    broken_told c.args.filter.now opening bytes more c.loop-fault.lines.newest was.gone progress.piece before (g.O.Outlet.held c.loop-fault.output) after c.in-Err-tell_read.fault
    was.newest_is was.written (front_read was.gone bytes more progress opening c.read_piece-read.result headed at) (c.in-Err-tell_read.ensures.lines (inv.still writes))
    c.in-Err-tell_read.ensures.fault

pub returns-in-Ok-false-clause-told : goal.returns-in-Ok-false-clause-told
returns-in-Ok-false-clause-told g c = λ reads writes.
    let inv = c.loop-fault.invariant in
    let bytes = g.I.Intake.left c.args.intake.now in
    let more = g.I.Intake.left c.read_piece-read.new.intake in
    let before = g.O.Outlet.held c.args.output.now in
    let progress = c.read_piece-read.new.progress in
    let since = inv.since reads writes in
    let opening = since.0 in
    let was = since.1 in
    let at = c.in-Ok-false.ensures.read was.gone bytes (inv.told reads) was.underway in
    let headed = headed_on was.gone bytes _ opening c.loop-fault.progress progress was.underway was.headed c.read_piece-read.ensures.stays in
    record {
      opening = Some opening;
      frames = was.gone ++ progress.piece;
      reading = read_headed was.gone bytes more progress opening None headed (subst (λ b. IsReadOn was.gone bytes more progress (Ok b)) c.in-Ok-false.field-0-test at);
      written = told_more c.args.filter.now c.loop-fault.lines.newest was.gone progress.piece before (g.O.Outlet.held c.loop-fault.output)
          (g.O.Outlet.held c.tell_read.new.output) was.newest_is was.written (c.in-Ok-tell_read.ensures.lines (inv.still writes));
    }

pub returns-in-Err-read-clause-told : goal.returns-in-Err-read-clause-told
returns-in-Err-read-clause-told g c = λ reads writes.
    let inv = c.loop-fault.invariant in
    let bytes = g.I.Intake.left c.args.intake.now in
    let more = g.I.Intake.left c.read_piece-read.new.intake in
    let before = g.O.Outlet.held c.args.output.now in
    let after = g.O.Outlet.held c.tell_read.new.output in
    let progress = c.read_piece-read.new.progress in
    let since = inv.since reads writes in
    let opening = since.0 in
    let was = since.1 in
    let at = c.in-Err-read.ensures.read was.gone bytes (inv.told reads) was.underway in
    let headed = headed_on was.gone bytes _ opening c.loop-fault.progress progress was.underway was.headed c.read_piece-read.ensures.stays in
    ended_told c.args.filter.now opening bytes more (was.gone ++ progress.piece) before after c.in-Err-read.fault
    (read_headed was.gone bytes more progress opening (Some c.in-Err-read.fault) headed at)
    (told_more c.args.filter.now c.loop-fault.lines.newest was.gone progress.piece before (g.O.Outlet.held c.loop-fault.output) after was.newest_is was.written
    (c.in-Ok-tell_read.ensures.lines (inv.still writes)))
