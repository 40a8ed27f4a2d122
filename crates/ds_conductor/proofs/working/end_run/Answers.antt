use Rattle.std.proofs.Common.{◌++◌, append-nil, append_assoc, sym, ap, ◌∙◌}
use Rattle.ds_conductor.proofs.LaningLaws.{front_of_written}
use Rattle.capture_reader.specs.Formats.{bytes_before}
use Rattle.ds_marking.proofs.PassingLaws.{starved_off}
use Rattle.capture_reader.proofs.ReadingLaws.{front_read}
use Rattle.ds_marking.proofs.WritingLaws.{longer_front}
use Rattle.ds_conductor.specs.Lanings.{read_last}
use Rattle.ds_conductor.proofs.working.end_run.Goals as goal

pub returns-then-run-clause-turned : goal.returns-then-run-clause-turned
returns-then-run-clause-turned g c = λ tells bytes more before text own gone taken head at part written none.
    let passage = c.args.passage.now in
    let run = c.args.run in
    let in_part = rw c.if-run.true at part in
    let piece = passage.progress.piece in
    let read = front_read (gone ++ taken) bytes more passage.progress passage.port.opening (read_last run.read) head at in
    starved_off passage.port bytes more before _ ((text ++ own) ++ in_part.2) ((gone ++ taken) ++ piece) (gone ++ in_part.0) (in_part.1 ++ piece) passage.conditioner read
    (ap (λ fs. (gone ++ fs) ++ piece) in_part.3 ∙ ap (λ fs. fs ++ piece) (sym (append_assoc gone in_part.0 in_part.1)) ∙ append_assoc (gone ++ in_part.0) in_part.1 piece)
    in_part.4 (longer_front (bytes_before passage.port.opening) (text ++ own) in_part.2 before _ (front_of_written run.written before _ _ written))

pub returns-in-Ok-clause-turned : goal.returns-in-Ok-clause-turned
returns-in-Ok-clause-turned g c = λ tells bytes more before text own gone taken head at part written none.
    let passage = c.args.passage.now in
    let shown = bytes_before passage.port.opening ++ (text ++ own) in
    c.pass_on.ensures.turned tells bytes more before (text ++ own) (gone ++ taken) head (rw c.read_last-read.ensures at) (rw c.if-run.false at part)
    (record {
      front = shown;
      whole = sym (ap (λ it. shown ++ it) none ∙ append-nil shown);
      written = rw c.in-Ok.is at written;
    })
