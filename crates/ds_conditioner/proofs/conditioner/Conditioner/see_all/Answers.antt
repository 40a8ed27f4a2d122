use Rattle.std.proofs.Common.{◌<◌, [], ◌++◌, List, length, take, drop, take-append-drop, append-nil, arith, refl, subst, sym, true, ◌∙◌}
use Rattle.pcap_capture.specs.Frames.{FrameValue}
use Rattle.ds_conditioner.specs.Conditionings.{IsConditioned}
use Rattle.ds_conditioner.specs.declared.conditioner.Conditioner.{Conditioner}
use Rattle.ds_conditioner.proofs.ConditionLaws.{ahead_same}
use Rattle.ds_conditioner.proofs.NextLaws.{joined, next_ahead, on_err}
use Rattle.ds_conditioner.proofs.conditioner.Conditioner.see_all.Goals as goal

pub returns-in_err-hold-clause-unseen : goal.returns-in_err-hold-clause-unseen
returns-in_err-hold-clause-unseen c =
    let after : Conditioner = record c.args.self.now { held = c.hold.new.self } in
    on_err c.from_residual.result (λ before text was. (
      [],
      c.args.piece,
      refl,
      subst (λ (fs : List FrameValue). IsConditioned c.args.port.now true fs text after) (sym (append-nil before)) (ahead_same c.args.port.now true before text c.args.self.now after refl c.hold.ensures.held was),
    ))

pub returns-in_err-see-clause-unseen : goal.returns-in_err-see-clause-unseen
returns-in_err-see-clause-unseen c =
    let place = c.loop.counter in
    on_err c.from_residual-in_err-see.result (λ before text was. (
      take place c.args.piece,
      drop place c.args.piece,
      sym (take-append-drop place c.args.piece),
      c.in_err-see.ensures.unseen (before ++ take place c.args.piece) text (c.loop.invariant.seen before text was),
    ))

pub loop-preserved : goal.loop-preserved
loop-preserved c =
    let was = c.loop.invariant in
    let place = c.loop.counter in
    let within : place < length c.args.piece = omega (arith, c.loop-test.true, c.len-count.ensures) in
    let next = next_ahead c.args.piece place c.loop.self.held.ahead was.ahead within in
    let here = c.in_ok-see.ensures.seen next.frame next.others next.there in
    record {
      bounded = c.see.ensures.bounded;
      ahead = here.0 ∙ next.behind;
      records = omega (arith, was.records, c.see.ensures.records);
      seen = λ before text at.
          joined c.args.port.now text before [] c.see.new.self c.args.piece place c.loop.self.held.ahead next (here.1 (before ++ take place c.args.piece) text (was.seen before text at));
    }
