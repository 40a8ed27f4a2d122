use Rattle.std.proofs.Common.{◌≡◌, ◌<◌, ◌++◌, ℕ, true, List, [], Some, IfOk, inl, rules, append-nil, append_assoc, refl, sym, ap, subst, ◌∙◌, arith}
use Rattle.pcap_capture.specs.Counts.{IsOfReads}
use Rattle.capture_reader.specs.Formats.{bytes_before}
use Rattle.pcap_capture.specs.Frames.{FrameValue}
use Rattle.ds_conditioner.specs.Conditionings.{IsConditioned}
use Rattle.ds_conditioner.specs.declared.port.Port.{Port}
use Rattle.ds_conductor.specs.Lanings.{AreWritten, IsTakenIn, frames_of, joined}
use Rattle.ds_marking.specs.Passings.{IsPassing, IsReadyAfter, is_unread_in}
use Rattle.ds_marking.specs.declared.marking.Passage.{Passage}
use Rattle.ds_conductor.proofs.LaningLaws.{asked_by, read_fed, reads_by, taken_by, written_behind, written_same}
use Rattle.ds_marking.proofs.PassingLaws.{unwritten_off}
use Rattle.ds_marking.proofs.WritingLaws.{broken_out, written_out, written_whole}
use Rattle.ds_conductor.proofs.working.take_turn_by.Goals as goal

pub returns-in-Err-clause-taken : goal.returns-in-Err-clause-taken
returns-in-Err-clause-taken g c =
    let passage = c.args.passage.now in
    let p = passage.port in record {
      ready = record { missing = omega arith; bounded = c.requires.bounded };
      port = refl;
      fewer = λ is. absurd cc;
      turned = λ given tells bytes before at.
          let none = c.if-not-is_empty.ensures.0 (search rules) in
          unwritten_off p at.frames bytes _ before _ at.text passage.progress [] passage.conditioner _ at.headed at.underway (sym none)
          (subst (λ (fs : List FrameValue). IsConditioned p true fs at.text passage.conditioner) (sym (append-nil at.frames)) at.conditioned)
          (broken_out (bytes_before p.opening ++ at.text) _ before _ _ at.written (c.in-Err.ensures.bytes tells));
      reads = tt;
      fault = inl c.in-Err.ensures.fault;
      given = λ given. given;
      told = λ tells. c.write_out.ensures.told tells;
    }

pub returns-in-None-clause-taken : goal.returns-in-None-clause-taken
returns-in-None-clause-taken g c =
    let passage = c.args.passage.now in
    let p = passage.port in
    let n = c.in-None.ensures.nothing in
    let one = c.take_turn-in-None.ensures.taken in
    let after = c.take_turn-in-None.new.passage in
    let last_intake = c.take_turn-in-None.new.intake in
    let written_out_first : Passage = record passage { out = c.write_out.new.out } in
    let ready : IsReadyAfter written_out_first after = subst (λ (q : Passage). IsReadyAfter q after) n.0 one.ready in record {
      ready = record { missing = ready.missing; bounded = ready.bounded };
      port = one.port ∙ ap (λ (q : Passage). q.port) n.0;
      fewer = λ is. subst (λ i. g.I.Intake.calls last_intake < g.I.Intake.calls i) n.1 (one.fewer is);
      turned = λ given tells bytes before at.
          let left = g.I.Intake.left c.args.intake.now in
          let held = g.O.Outlet.held c.write_out.new.outlet in
          let first : IsPassing bytes left before held (record passage { out = c.write_out.new.out }) = record {
            frames = at.frames;
            text = at.text;
            underway = at.underway;
            headed = at.headed;
            conditioned = at.conditioned;
            written = written_out (bytes_before p.opening ++ at.text) _ _ before _ _ at.written ((rw c.in_default.is at c.write_out.ensures.bytes) tells) (rw c.in_default.is at c.write_out.ensures.emptied);
          } in
          let second = subst (λ (q : Passage). IsPassing bytes left before held q) (sym n.0) first in
          let third = subst (λ (l : List ℕ). IsPassing bytes l before held c.run_by.new.passage) (sym (ap (λ i. g.I.Intake.left i) n.1)) second in
          let last = subst (λ (h : List ℕ). IsPassing bytes (g.I.Intake.left c.run_by.new.intake) before h c.run_by.new.passage) (sym (ap (λ o. g.O.Outlet.held o) n.2)) third in
          one.turned (subst (λ i. g.I.Intake.tells i) (sym n.1) given) (subst (λ o. g.O.Outlet.tells o) (sym n.2) (c.write_out.ensures.told tells)) bytes before last;
      reads = subst (λ i. IfOk c.take_turn-in-None.result (λ turn. IsOfReads (is_unread_in turn) (g.I.Intake.failed i) (g.I.Intake.failed last_intake) (g.I.Intake.calls last_intake))) n.1 one.reads;
      fault = one.fault;
      given = λ given. one.given (subst (λ i. g.I.Intake.tells i) (sym n.1) given);
      told = λ tells. one.told (subst (λ o. g.O.Outlet.tells o) (sym n.2) (c.write_out.ensures.told tells));
    }

pub returns-in-Some-clause-taken : goal.returns-in-Some-clause-taken
returns-in-Some-clause-taken g c =
    let passage = c.args.passage.now in
    let p = passage.port in
    let run = c.in-Some.run' in
    let after = c.run_by.new.passage in
    let ran = c.in-Some.ensures.ran in
    let kept = c.run_by.ensures.kept in
    let ending = c.end_run-turned.ensures in
    let more = g.I.Intake.left c.run_by.new.intake in
    let held = g.O.Outlet.held c.run_by.new.outlet in record {
      ready = record {
        missing = let a = ending.still.missing in let b = ran.fed.missing in omega (arith, a, b);
        bounded = ending.still.bounded;
      };
      port = ending.still.port ∙ kept.1;
      fewer = λ is. let m = ending.more is in asked_by run.read run.written _ _ m.0 m.1 ran.cut ran.fed.fewer;
      turned = λ given tells bytes before at.
          let taken = frames_of ran.put in
          let own = joined ran.taken in
          let told = c.write_out.ensures.told tells in
          let head = ran.fed.fed.stays p.opening at.frames bytes given at.underway at.headed in
          let read = read_fed (at.frames ++ taken) bytes more after.progress run.read (ran.fed.fed.read at.frames bytes given at.underway) in
          let part = taken_by run.starved p passage.conditioner after.conditioner at.frames taken at.text own ran.passed.passed at.conditioned in
          let whole = written_whole (bytes_before p.opening ++ at.text) _ before _
          (written_out (bytes_before p.opening ++ at.text) _ _ before _ _ at.written ((rw c.in_default.is at c.write_out.ensures.bytes) tells) (rw c.in_default.is at c.write_out.ensures.emptied)) (rw c.in_default.is at c.write_out.ensures.emptied) in
          let written = written_same run.written before ((bytes_before p.opening ++ at.text) ++ own) (bytes_before p.opening ++ (at.text ++ own)) held (append_assoc (bytes_before p.opening) at.text own)
          (written_behind run.written before (bytes_before p.opening ++ at.text) _ own held whole (ran.given.written told)) in
          ending.turned (ran.given.told told) bytes more before at.text own at.frames taken
          (subst (λ (q : Port). after.progress.opening ≡ Some q.opening) (sym kept.1) head)
          read
          (subst (λ (q : Port). IsTakenIn run.starved q at.frames taken at.text own after.conditioner) (sym kept.1) part)
          (subst (λ (q : Port). AreWritten run.written before (bytes_before q.opening ++ (at.text ++ own)) held) (sym kept.1) written)
          (ap (λ v. v.items) kept.2 ∙ rw c.in_default.is at c.write_out.ensures.emptied);
      reads = reads_by run.read run.written c.end_run-turned.result _ _ _ _ _ ran.cut ending.failures ran.fed.reads (ending.reads _ _ _);
      fault = ending.fault;
      given = λ given. ran.fed.given given;
      told = λ tells. ending.told (ran.given.told (c.write_out.ensures.told tells));
    }
