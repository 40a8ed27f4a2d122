use Rattle.std.proofs.Common.{◌++◌, [], append-nil, append_assoc, refl, sym, ap, ◌∙◌}
use Rattle.ds_marking.proofs.PassingLaws.{starved_off}
use Rattle.capture_reader.proofs.ReadingLaws.{front_read, whole_read}
use Rattle.ds_conductor.proofs.working.unwritten_with.Goals as goal

pub returns-in-Err-clause-off : goal.returns-in-Err-clause-off
returns-in-Err-clause-off c = λ bytes more before now text gone head at conditioned written.
    let passage = c.args.passage.now in
    let read = front_read gone bytes more passage.progress passage.port.opening c.args.read head at in
    let seen = c.in-Err.ensures.unseen gone text conditioned in
    starved_off passage.port bytes more before now text (gone ++ passage.progress.piece) (gone ++ seen.0) seen.1 c.see_read-seen.new.conditioner read
    (ap (λ fs. gone ++ fs) seen.2 ∙ sym (append_assoc gone seen.0 seen.1)) seen.3 written

pub returns-in-Ok-clause-off : goal.returns-in-Ok-clause-off
returns-in-Ok-clause-off c = λ bytes more before now text gone head at conditioned written.
    let passage = c.args.passage.now in
    let read = front_read gone bytes more passage.progress passage.port.opening c.args.read head at in
    let all = gone ++ passage.progress.piece in
    starved_off passage.port bytes more before now text all all [] c.see_read-seen.new.conditioner read (sym (append-nil all)) (c.in-Ok.ensures.seen gone text conditioned) written

pub returns-in-Ok-2-clause-off : goal.returns-in-Ok-2-clause-off
returns-in-Ok-2-clause-off c = λ bytes more before now text gone head at conditioned written.
    let passage = c.args.passage.now in
    let all = whole_read gone bytes more passage.progress passage.port.opening c.args.read head (sym c.if-is_starving.ensures) at in
    let frames = gone ++ passage.progress.piece in record {
      read = all.0;
      frames = frames;
      others = [];
      text = text;
      front = all.1;
      headed = all.2;
      parted = all.3 ∙ sym (append-nil frames);
      all = λ e. refl;
      conditioned = c.in-Ok-2.ensures.seen gone text conditioned;
      written = written;
    }
