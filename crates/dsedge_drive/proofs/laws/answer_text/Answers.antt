use Rattle.std.proofs.Common.{◌<◌, [], length, refl, ◌∙◌, arith}
use Rattle.line_text.specs.Lines.{lines_of}
use Rattle.dsedge_lines.specs.Answers.{behind}
use Rattle.dsedge_drive.specs.Driven.{Reply, drive_from}
use Rattle.dsedge_drive.specs.Opened.{answer_behind}
use Rattle.dsedge_drive.proofs.AgainLaws.{answered_further, given_at_end, given_before, given_so_far, nothing_given, still_answered}
use Rattle.dsedge_drive.proofs.DriveLaws.{answered_whole}
use Rattle.dsedge_drive.proofs.laws.answer_text.Goals as goal

pub loop-ended-init : goal.loop-ended-init
loop-ended-init g c = record {
  number = omega arith;
  answered = ([], refl, nothing_given c.args.command.now c.args.out.now.items c.requires.said c.requires.kept);
  answer = refl;
}

pub loop-ended-preserved : goal.loop-ended-preserved
loop-ended-preserved g c =
    let s = c.args.command.now in
    let at = c.loop-ended in
    let was = at.invariant in
    let from : Reply = record { text = c.args.out.now.items; offered = s.offered; book = s.book } in
    let next = rw (c.in-Some.is, c.in-None.is) at c.in_ok-ended.ensures.follows in
    let on = rw (c.in-Some.is, c.in-None.is) at c.in_ok-ended.ensures.answer in
    let short : length c.in-Some.later.now < length at.rest.now = rw c.in-Some.is at c.in_ok-ended.ensures.shorter in
    record {
      number = omega (arith, was.number, short);
      answered = answered_further (lines_of c.args.text.now) was.answered.0 (lines_of at.rest.now) was.answered.1 s.in_json from at.out.items at.command
          next.0 (lines_of c.in-Some.later.now) c.answer_first.new.out.items c.answer_first.new.command next.1 next.2 was.answered.2;
      answer = on ∙ was.answer;
    }

pub returns-in_err-ended-clause-given : goal.returns-in_err-ended-clause-given
returns-in_err-ended-clause-given g c =
    let s = c.args.command.now in
    let at = c.loop-ended in
    let was = at.invariant.answered in
    given_before (lines_of c.args.text.now) was.0 (lines_of at.rest.now) was.1 s.in_json (record { text = c.args.out.now.items; offered = s.offered; book = s.book }) at.out.items at.command
    c.answer_first.new.out.items c.answer_first.new.command c.in_err-ended.ensures.follows was.2

pub returns-in-Some-ended-clause-given : goal.returns-in-Some-ended-clause-given
returns-in-Some-ended-clause-given g c =
    let s = c.args.command.now in
    let at = c.loop-ended in
    let was = at.invariant.answered in
    given_so_far (lines_of c.args.text.now) was.0 (lines_of at.rest.now) was.1 s.in_json (record { text = c.args.out.now.items; offered = s.offered; book = s.book }) at.out.items at.command
    c.answer_first.new.out.items c.answer_first.new.command (rw (c.in-Some.is, c.in-Some-ended.is) at c.in_ok-ended.ensures.follows) was.2

pub returns-clause-answer : goal.returns-clause-answer
returns-clause-answer g c =
    let s = c.args.command.now in
    let at = c.loop-ended in
    let out = c.args.out.now.items in
    let lines = lines_of c.args.text.now in
    answered_whole (λ ls. behind out (answer_behind s 1 ls)) (λ ls. behind at.out.items (answer_behind at.command at.number ls))
    (λ ls. behind c.answer_first.new.out.items (answer_behind c.answer_first.new.command at.number ls))
    (λ unsaid. behind out (behind unsaid (drive_from s.in_json s.offered s.book 1 lines))) s.unsaid at.rest.now lines c.end.new.out.items c.end.result
    (rw c.in_default.is at c.in_ok-ended.ensures.none) (rw c.in_default.is at c.in_ok-ended.ensures.answer) at.invariant.answer refl c.requires.said c.end.ensures.answer

pub returns-clause-given : goal.returns-clause-given
returns-clause-given g c =
    let s = c.args.command.now in
    let at = c.loop-ended in
    let was = at.invariant.answered in
    let from : Reply = record { text = c.args.out.now.items; offered = s.offered; book = s.book } in
    let all = lines_of c.args.text.now in
    let left = lines_of at.rest.now in
    let mid = c.answer_first.new.command in
    let between = c.answer_first.new.out.items in
    given_at_end all was.0 left was.1 s.in_json from between mid c.end.result c.end.new.out.items c.end.new.self c.end.ensures.follows
    (still_answered all was.0 left was.1 s.in_json from at.out.items at.command between mid (rw c.in_default.is at c.in_ok-ended.ensures.follows) was.2)
