use Rattle.std.proofs.Common.{◌≡◌, ◌+◌, ◌≤◌, [], ◌++◌, refl, sym, ap, ◌∙◌, arith, append-nil, subst, None, Some, Ok, Err, vec_len}
use Rattle.line_text.specs.Lines.{lines_of}
use Rattle.line_text.proofs.LineLemmas.{has_byte-nil}
use Rattle.pcap_capture.proofs.CountLaws.{reads_from}
use Rattle.dsedge_lines.specs.Answers.{behind}
use Rattle.dsedge_lines.proofs.AnswerLemmas.{behind-handed, BeginsWith-behind, BeginsWith-whole, BeginsWith-given, held-append, front-settled, none-settled, settled-failures, settled-unread, whole-settled, stays-false}
use Rattle.dsedge_lines.specs.Faults.{is_read_fault}
use Rattle.dsedge_lines.specs.Underway.{lines_with}
use Rattle.dsedge_lines.proofs.CourseLaws.{handed_over, stays_behind}
use Rattle.dsedge_lines.specs.declared.command.Ending.{Ending}
use Rattle.dsedge_lines.specs.declared.fault.PumpFault.TheVariants.{NoMemory}
use Rattle.dsedge_lines.proofs.engine.pump_through.Goals as goal

pub loop-command-init : goal.loop-command-init
loop-command-init g c = record {
  room = c.requires.room;
  number = omega (arith, c.requires.fresh.number, g.met.I.Intake.few c.args.intake.now);
  carried = rw c.requires.fresh.carry (has_byte-nil 10);
  told = λ tells. tells;
  told_outlet = λ tells. tells;
  failed = refl;
  failed_outlet = refl;
  answer = λ tells tells_outlet. ([], sym (append-nil _), rw (c.requires.fresh.carry, c.requires.fresh.out, c.requires.fresh.number) refl, rw (c.requires.fresh.carry, c.requires.fresh.out) (λ start whole front it. it));
}

pub loop-command-preserved : goal.loop-command-preserved
loop-command-preserved g c =
    let was = c.loop-command.invariant in
    let next = c.in-Ok-None.ensures in
    let size : vec_len c.answer_next.new.piece ≡ 65536 = next.room ∙ was.room in
    record {
      room = size;
      number =
          let count : c.answer_next.new.progress.number ≤ c.loop-command.progress.number + vec_len c.loop-command.piece = rw c.in-Ok-None.field-0-is at next.number in
          omega (arith, count, was.room, was.number, next.fewer);
      carried = rw c.in-Ok-None.field-0-is at next.carried;
      told = λ tells. next.told (was.told tells);
      told_outlet = λ tells. c.in-Ok.ensures.told (was.told_outlet tells);
      failed = next.reads ∙ was.failed;
      failed_outlet = c.in-Ok.ensures.failures ∙ was.failed_outlet;
      answer = λ tells tells_outlet.
          let now = was.answer tells tells_outlet in
          let out = c.loop-command.progress.out.items in
          let handed = behind-handed now.0 out c.hand_over.new.out.items (g.C.Command.answer c.loop-command.command c.loop-command.progress.number (lines_of (c.loop-command.progress.carry.items ++ g.I.Intake.left c.loop-command.intake))) _ now.2 c.in-Ok.ensures.emptied in
          let on = rw c.in-Ok-None.field-0-is at (next.answer (was.told tells)) in (
            now.0 ++ out,
            held-append _ _ _ now.0 out now.1 (c.in-Ok.ensures.bytes (was.told_outlet tells_outlet)),
            ap (behind (now.0 ++ out)) on ∙ handed,
            λ start whole front it.
                stays_behind g.C.Command.stands start c.loop-command.command c.answer_next.new.command whole front (now.0 ++ out) c.hand_over.new.out.items c.answer_next.new.progress.out.items _ _
                (rw c.in-Ok-None.field-0-is at (next.stands (was.told tells))) c.in-Ok.ensures.emptied (now.3 start whole front it),
          );
    }

pub returns-in_default-clause-front : goal.returns-in_default-clause-front
returns-in_default-clause-front g c = λ tells tells_outlet.
    let was = c.loop-command.invariant in
    let now = was.answer tells tells_outlet in
    let out = c.loop-command.progress.out.items in
    let answer = g.C.Command.answer c.loop-command.command c.loop-command.progress.number (lines_of (c.loop-command.progress.carry.items ++ g.I.Intake.left c.loop-command.intake)) in
    let given = c.in_default.ensures.bytes (was.told_outlet tells_outlet) in
    (_, BeginsWith-given now.0 out (behind out answer) _ given.0 (BeginsWith-behind out answer _ refl) now.2, held-append _ _ _ now.0 _ now.1 given.1)

pub returns-in_default-clause-stands : goal.returns-in_default-clause-stands
returns-in_default-clause-stands g c = λ tells tells_outlet start whole front it.
    let was = c.loop-command.invariant in
    let now = was.answer tells tells_outlet in
    let out = c.loop-command.progress.out.items in
    let stood = subst (λ text. g.C.Command.stands start whole (Some (lines_of (g.I.Intake.left c.args.intake.now))) text c.args.command.now) (sym (append-nil front)) it in
    handed_over {T = Ending} (λ text. g.C.Command.stands start whole None (front ++ text) c.loop-command.command) (Err c.in_default.field-0) _ _ _ now.0 out
    (c.in_default.ensures.bytes (was.told_outlet tells_outlet)) now.1
    (g.met.C.Command.stops start whole (Some (lines_with c.loop-command.progress (g.I.Intake.left c.loop-command.intake))) (front ++ (now.0 ++ out)) c.loop-command.command (now.3 start whole front stood))

pub returns-in-Ok-Some-clause-front : goal.returns-in-Ok-Some-clause-front
returns-in-Ok-Some-clause-front g c = λ tells tells_outlet.
    let was = c.loop-command.invariant in
    let handed_over = c.in-Ok.ensures in
    let now = was.answer tells tells_outlet in
    let out = c.loop-command.progress.out.items in
    let answer = g.C.Command.answer c.loop-command.command c.loop-command.progress.number (lines_of (c.loop-command.progress.carry.items ++ g.I.Intake.left c.loop-command.intake)) in
    let whole = behind c.hand_over.new.out.items answer in
    let handed = behind-handed now.0 out c.hand_over.new.out.items answer _ now.2 handed_over.emptied in
    let begins = BeginsWith-whole c.answer_next.new.progress.out.items c.in-Ok-Some.ending whole (rw c.in-Ok-Some.field-0-is at (c.in-Ok-Some.ensures.answer (was.told tells))) in
    front-settled c.settle.result _ _ _ (now.0 ++ out) _ whole _ (c.settle.ensures.bytes (handed_over.told (was.told_outlet tells_outlet)))
    (held-append _ _ _ now.0 out now.1 (handed_over.bytes (was.told_outlet tells_outlet))) begins handed

pub returns-in-Ok-Some-clause-whole : goal.returns-in-Ok-Some-clause-whole
returns-in-Ok-Some-clause-whole g c = λ tells tells_outlet.
    let was = c.loop-command.invariant in
    let handed_over = c.in-Ok.ensures in
    let now = was.answer tells tells_outlet in
    let out = c.loop-command.progress.out.items in
    let answer = g.C.Command.answer c.loop-command.command c.loop-command.progress.number (lines_of (c.loop-command.progress.carry.items ++ g.I.Intake.left c.loop-command.intake)) in
    let whole = behind c.hand_over.new.out.items answer in
    whole-settled c.settle.result c.in-Ok-Some.ending _ _ _ (now.0 ++ out) c.answer_next.new.progress.out.items whole _ c.settle.ensures.outcome
    (c.settle.ensures.bytes (handed_over.told (was.told_outlet tells_outlet)))
    (held-append _ _ _ now.0 out now.1 (handed_over.bytes (was.told_outlet tells_outlet))) (rw c.in-Ok-Some.field-0-is at (c.in-Ok-Some.ensures.answer (was.told tells)))
    (behind-handed now.0 out c.hand_over.new.out.items answer _ now.2 handed_over.emptied)

pub returns-in-Ok-Some-clause-write : goal.returns-in-Ok-Some-clause-write
returns-in-Ok-Some-clause-write g c =
    settled-failures _ _ _ _ (c.in-Ok.ensures.failures ∙ c.loop-command.invariant.failed_outlet) c.settle.ensures.failures

pub returns-in-Ok-Some-clause-reads : goal.returns-in-Ok-Some-clause-reads
returns-in-Ok-Some-clause-reads g c =
    rw (settled-unread c.settle.result (Ok c.in-Ok-Some.ending) c.settle.ensures.outcome refl) (c.in-Ok-Some.ensures.reads ∙ c.loop-command.invariant.failed)

pub returns-in-Ok-Some-clause-stands : goal.returns-in-Ok-Some-clause-stands
returns-in-Ok-Some-clause-stands g c = λ tells tells_outlet start whole front it.
    let was = c.loop-command.invariant in
    let handed = c.in-Ok.ensures in
    let now = was.answer tells tells_outlet in
    let out = c.loop-command.progress.out.items in
    let stood = subst (λ text. g.C.Command.stands start whole (Some (lines_of (g.I.Intake.left c.args.intake.now))) text c.args.command.now) (sym (append-nil front)) it in
    let stands = stays_behind g.C.Command.stands start c.loop-command.command c.answer_next.new.command whole front (now.0 ++ out) c.hand_over.new.out.items c.answer_next.new.progress.out.items _ _
    (rw c.in-Ok-Some.field-0-is at (c.in-Ok-Some.ensures.stands (was.told tells))) handed.emptied (now.3 start whole front stood) in
    handed_over (λ text. g.C.Command.stands start whole None (front ++ text) c.answer_next.new.command) c.settle.result _ _ _ (now.0 ++ out) c.answer_next.new.progress.out.items
    (c.settle.ensures.bytes (handed.told (was.told_outlet tells_outlet))) (held-append _ _ _ now.0 out now.1 (handed.bytes (was.told_outlet tells_outlet))) stands

pub returns-in-Err-NoMemory-clause-stands : goal.returns-in-Err-NoMemory-clause-stands
returns-in-Err-NoMemory-clause-stands g c = λ tells tells_outlet start whole front it.
    let was = c.loop-command.invariant in
    let handed = c.in-Ok.ensures in
    let now = was.answer tells tells_outlet in
    let out = c.loop-command.progress.out.items in
    let stood = subst (λ text. g.C.Command.stands start whole (Some (lines_of (g.I.Intake.left c.args.intake.now))) text c.args.command.now) (sym (append-nil front)) it in
    let stands = stays_behind g.C.Command.stands start c.loop-command.command c.answer_next.new.command whole front (now.0 ++ out) c.hand_over.new.out.items c.answer_next.new.progress.out.items _ _
    (c.in-Err-NoMemory.ensures.stands (was.told tells)) handed.emptied (now.3 start whole front stood) in
    handed_over (λ text. g.C.Command.stands start whole None (front ++ text) c.answer_next.new.command) c.settle-in-Err-NoMemory.result _ _ _ (now.0 ++ out) c.answer_next.new.progress.out.items
    (c.settle-in-Err-NoMemory.ensures.bytes (handed.told (was.told_outlet tells_outlet))) (held-append _ _ _ now.0 out now.1 (handed.bytes (was.told_outlet tells_outlet))) stands

pub returns-in-Err-NoMemory-clause-front : goal.returns-in-Err-NoMemory-clause-front
returns-in-Err-NoMemory-clause-front g c = λ tells tells_outlet.
    let was = c.loop-command.invariant in
    let handed_over = c.in-Ok.ensures in
    let now = was.answer tells tells_outlet in
    let out = c.loop-command.progress.out.items in
    let answer = g.C.Command.answer c.loop-command.command c.loop-command.progress.number (lines_of (c.loop-command.progress.carry.items ++ g.I.Intake.left c.loop-command.intake)) in
    let whole = behind c.hand_over.new.out.items answer in
    let handed = behind-handed now.0 out c.hand_over.new.out.items answer _ now.2 handed_over.emptied in
    front-settled c.settle-in-Err-NoMemory.result _ _ _ (now.0 ++ out) _ whole _ (c.settle-in-Err-NoMemory.ensures.bytes (handed_over.told (was.told_outlet tells_outlet)))
    (held-append _ _ _ now.0 out now.1 (handed_over.bytes (was.told_outlet tells_outlet))) (c.in-Err-NoMemory.ensures.answer (was.told tells)) handed

pub returns-in-Err-NoMemory-clause-whole : goal.returns-in-Err-NoMemory-clause-whole
returns-in-Err-NoMemory-clause-whole g c = λ tells tells_outlet.
    none-settled _ c.settle-in-Err-NoMemory.result NoMemory c.settle-in-Err-NoMemory.ensures.outcome

pub returns-in-Err-NoMemory-clause-write : goal.returns-in-Err-NoMemory-clause-write
returns-in-Err-NoMemory-clause-write g c =
    settled-failures _ _ _ _ (c.in-Ok.ensures.failures ∙ c.loop-command.invariant.failed_outlet) c.settle-in-Err-NoMemory.ensures.failures

pub returns-in-Err-NoMemory-clause-reads : goal.returns-in-Err-NoMemory-clause-reads
returns-in-Err-NoMemory-clause-reads g c =
    rw (settled-unread c.settle-in-Err-NoMemory.result (Err NoMemory) c.settle-in-Err-NoMemory.ensures.outcome refl) (rw c.in-Err-NoMemory.field-0-is at c.in-Err-NoMemory.ensures.reads ∙ c.loop-command.invariant.failed)

pub returns-in-Err : goal.returns-in-Err
returns-in-Err g c =
    let was = c.loop-command.invariant in
    let handed_over = c.in-Ok.ensures in
    let next = c.in-Err.ensures in
    record {
      whole = λ tells tells_outlet. tt;
      front = λ tells tells_outlet.
          let now = was.answer tells tells_outlet in
          let out = c.loop-command.progress.out.items in
          let answer = g.C.Command.answer c.loop-command.command c.loop-command.progress.number (lines_of (c.loop-command.progress.carry.items ++ g.I.Intake.left c.loop-command.intake)) in
          let handed = behind-handed now.0 out c.hand_over.new.out.items answer _ now.2 handed_over.emptied in
          (now.0 ++ out, BeginsWith-behind (now.0 ++ out) (behind c.hand_over.new.out.items answer) _ handed, held-append _ _ _ now.0 out now.1 (handed_over.bytes (was.told_outlet tells_outlet)));
      stands = λ tells tells_outlet start whole front it.
          let now = was.answer tells tells_outlet in
          let out = c.loop-command.progress.out.items in
          let more = c.answer_next.new.progress.out.items in
          let stood = subst (λ text. g.C.Command.stands start whole (Some (lines_of (g.I.Intake.left c.args.intake.now))) text c.args.command.now) (sym (append-nil front)) it in
          record {
            text = (now.0 ++ out) ++ more;
            holds = stays_behind g.C.Command.stands start c.loop-command.command c.answer_next.new.command whole front (now.0 ++ out) c.hand_over.new.out.items more _ _
                (next.stands (was.told tells)) handed_over.emptied (now.3 start whole front stood);
            front = now.0 ++ out;
            more = more;
            whole = refl;
            given = held-append _ _ _ now.0 out now.1 (handed_over.bytes (was.told_outlet tells_outlet));
          };
      write = stays-false _ _ next.input (handed_over.failures ∙ was.failed_outlet);
      reads = reads_from (is_read_fault {T = Ending} (Err c.in-Err.fault)) _ _ _ _ was.failed next.reads;
    }
