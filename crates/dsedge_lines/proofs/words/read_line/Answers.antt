use Rattle.std.proofs.Common.{◌≡◌, ◌+◌, ◌≤◌, true, [], ◌∷◌, ◌++◌, length, refl, sym, ap, ◌∙◌, append-nil, append_assoc}
use Rattle.std.proofs.lemmas.List.{length_push}
use Rattle.line_text.proofs.LineLemmas.{has_byte-nil}
use Rattle.pcap_capture.proofs.CountLaws.{reads_from}
use Rattle.dsedge_lines.specs.FirstLine.{first_line_of, after_first_line}
use Rattle.dsedge_lines.proofs.FirstLineLemmas.{first_line-cut, first_line-uncut, first_line_of-long, has_byte-push, most_bytes, too_many_bytes}
use Rattle.dsedge_lines.proofs.words.read_line.Goals as goal

pub loop-turn-init : goal.loop-turn-init
loop-turn-init g c = record {
  told = λ tells. tells;
  failed = refl;
  unbroken = rw c.new-line.ensures.items (has_byte-nil 10);
  size = rw c.new-line.ensures.items refl;
  left = λ tells. rw c.new-line.ensures.items refl;
}

pub returns-in-Ok-None-clause-line : goal.returns-in-Ok-None-clause-line
returns-in-Ok-None-clause-line g c = λ tells.
    let was = c.loop-turn.invariant in
    let line = c.loop-turn.line.items in
    let ends = rw c.in-Ok-None.field-0-is at (c.in-Ok-None.ensures.byte (was.told tells)) in
    let whole : g.I.Intake.left c.args.intake.now ≡ line = was.left tells ∙ ap (λ bytes. line ++ bytes) ends.0 ∙ append-nil line in
    let size : length line ≤ 65536 = most_bytes _ _ was.size c.loop-turn-test.true in
    (sym (ap first_line_of whole ∙ (first_line-uncut line was.unbroken).0), ends.1 ∙ sym (ap after_first_line whole ∙ (first_line-uncut line was.unbroken).1), size)

pub returns-then-byte-eq10-clause-line : goal.returns-then-byte-eq10-clause-line
returns-then-byte-eq10-clause-line g c = λ tells.
    let was = c.loop-turn.invariant in
    let line = c.loop-turn.line.items in
    let rest = g.I.Intake.left c.next_byte.new.intake in
    let next = rw c.in-Ok-Some.field-0-is at (c.in-Ok-Some.ensures.byte (was.told tells)) in
    let whole : g.I.Intake.left c.args.intake.now ≡ line ++ 10 ∷ rest = was.left tells ∙ ap (λ bytes. line ++ bytes) (next ∙ ap (λ byte. byte ∷ rest) c.if-byte-eq10.true) in
    let size : length line ≤ 65536 = most_bytes _ _ was.size c.loop-turn-test.true in
    (sym (ap first_line_of whole ∙ (first_line-cut line rest was.unbroken).0), sym (ap after_first_line whole ∙ (first_line-cut line rest was.unbroken).1), size)

pub loop-turn-preserved : goal.loop-turn-preserved
loop-turn-preserved g c =
    let was = c.loop-turn.invariant in
    let line = c.loop-turn.line.items in
    let byte = c.in-Ok-Some.byte in
    let rest = g.I.Intake.left c.next_byte.new.intake in
    let next = c.in-Ok-Some.ensures in
    record {
      told = λ tells. next.told (was.told tells);
      failed = next.reads ∙ was.failed;
      unbroken = rw c.in-Ok.ensures.items (has_byte-push line byte was.unbroken c.if-byte-eq10.false);
      size = ap length c.in-Ok.ensures.items ∙ length_push line byte ∙ ap (λ size. size + 1) was.size;
      left = λ tells.
          let more = rw c.in-Ok-Some.field-0-is at (next.byte (was.told tells)) in
          was.left tells ∙ ap (λ bytes. line ++ bytes) more ∙ sym (append_assoc line (byte ∷ []) rest) ∙ ap (λ bytes. bytes ++ rest) (sym c.in-Ok.ensures.items);
    }

pub returns-clause-long : goal.returns-clause-long
returns-clause-long g c = λ tells is_usage.
    let was = c.loop-turn.invariant in
    let line = c.loop-turn.line.items in
    let rest = g.I.Intake.left c.loop-turn.intake in
    rw (was.left tells) (too_many_bytes _ _ _ was.size c.loop-turn-test.false (first_line_of-long line rest was.unbroken))

pub returns-in-Ok-None-clause-told : goal.returns-in-Ok-None-clause-told
returns-in-Ok-None-clause-told g c = λ tells. c.next_byte.ensures.told (c.loop-turn.invariant.told tells)

pub returns-in-Ok-None-clause-long : goal.returns-in-Ok-None-clause-long
returns-in-Ok-None-clause-long g c = λ tells is. absurd cc

pub returns-in-Ok-None-clause-reads : goal.returns-in-Ok-None-clause-reads
returns-in-Ok-None-clause-reads g c = c.in-Ok-None.ensures.reads ∙ c.loop-turn.invariant.failed

pub returns-then-byte-eq10-clause-told : goal.returns-then-byte-eq10-clause-told
returns-then-byte-eq10-clause-told g c = λ tells. c.next_byte.ensures.told (c.loop-turn.invariant.told tells)

pub returns-then-byte-eq10-clause-long : goal.returns-then-byte-eq10-clause-long
returns-then-byte-eq10-clause-long g c = λ tells is. absurd cc

pub returns-then-byte-eq10-clause-reads : goal.returns-then-byte-eq10-clause-reads
returns-then-byte-eq10-clause-reads g c = c.in-Ok-Some.ensures.reads ∙ c.loop-turn.invariant.failed

pub returns-in_default-clause-told : goal.returns-in_default-clause-told
returns-in_default-clause-told g c = λ tells. c.next_byte.ensures.told (c.loop-turn.invariant.told tells)

pub returns-in_default-clause-long : goal.returns-in_default-clause-long
returns-in_default-clause-long g c = λ tells is. absurd cc

pub returns-in_default-clause-reads : goal.returns-in_default-clause-reads
returns-in_default-clause-reads g c = c.in-Ok-Some.ensures.reads ∙ c.loop-turn.invariant.failed

pub returns-in_default-clause-line : goal.returns-in_default-clause-line
returns-in_default-clause-line g c = λ tells. tt

pub returns-in-Err-clause-told : goal.returns-in-Err-clause-told
returns-in-Err-clause-told g c = λ tells. c.next_byte.ensures.told (c.loop-turn.invariant.told tells)

pub returns-in-Err-clause-long : goal.returns-in-Err-clause-long
returns-in-Err-clause-long g c = λ tells is. absurd cc

pub returns-in-Err-clause-reads : goal.returns-in-Err-clause-reads
returns-in-Err-clause-reads g c = reads_from true _ _ _ _ c.loop-turn.invariant.failed c.in-Err.ensures.reads

pub returns-in-Err-clause-line : goal.returns-in-Err-clause-line
returns-in-Err-clause-line g c = λ tells. tt
