use Rattle.std.proofs.Common.{◌<◌, [], ◌++◌, List, length, take, drop, take-append-drop, append-nil, arith, refl, subst, sym, true, ◌∙◌}
use Rattle.pcap_capture.specs.Frames.{FrameValue}
use Rattle.frame_marker.specs.Marks.{IsMarkOf}
use Rattle.ds_conditioner.specs.Conditionings.{IsConditioned, IsSeenOf}
use Rattle.ds_conditioner.specs.declared.conditioner.Conditioner.{Conditioner}
use Rattle.ds_conditioner.proofs.ConditionLaws.{ahead_same, same_first}
use Rattle.ds_conditioner.proofs.NextLaws.{joined, next_ahead, on_err, seen_long, seen_there}
use Rattle.ds_conditioner.proofs.conditioner.Conditioner.take_all.Goals as goal

pub returns-in_err-hold-clause-unseen : goal.returns-in_err-hold-clause-unseen
returns-in_err-hold-clause-unseen c told =
    let after : Conditioner = record c.args.self.now { held = c.hold.new.self } in
    on_err c.from_residual.result (λ before text was. (
      [],
      c.args.piece,
      refl,
      subst (λ (fs : List FrameValue). IsConditioned c.args.port.now true fs text after) (sym (append-nil before)) (ahead_same c.args.port.now true before text c.args.self.now after refl c.hold.ensures.held was),
    ))

pub bounds-seen-place : goal.bounds-seen-place
bounds-seen-place c =
    let place = c.loop-place.place in
    let within : place < length c.args.piece = omega (arith, c.loop-place-test.true, c.len-count.ensures) in
    let next = next_ahead c.args.piece place c.loop-place.self.held.ahead c.loop-place.invariant.ahead within in
    seen_long (λ f s. IsMarkOf s.mark f.bytes) c.args.piece place c.loop-place.self.held.ahead next c.args.seen.now c.requires.marked within

pub take_in-requires-clause-marked : goal.take_in-requires-clause-marked
take_in-requires-clause-marked c frame others at =
    let place = c.loop-place.place in
    let s = c.index-seen-place.result in
    let within : place < length c.args.piece = omega (arith, c.loop-place-test.true, c.len-count.ensures) in
    let next = next_ahead c.args.piece place c.loop-place.self.held.ahead c.loop-place.invariant.ahead within in
    let there = seen_there (λ f s. IsMarkOf s.mark f.bytes) c.args.piece place c.loop-place.self.held.ahead next c.args.seen.now c.requires.marked within s c.index-seen-place.is in
    let same = same_first c.loop-place.self.held.ahead next.frame frame next.others others next.there at in
    subst (λ (f : FrameValue). IsMarkOf s.mark f.bytes) same.0 there

pub returns-in_err-take_in-clause-unseen : goal.returns-in_err-take_in-clause-unseen
returns-in_err-take_in-clause-unseen c told =
    let place = c.loop-place.place in
    on_err c.from_residual-in_err-take_in.result (λ before text was. (
      take place c.args.piece,
      drop place c.args.piece,
      sym (take-append-drop place c.args.piece),
      c.in_err-take_in.ensures.unseen (before ++ take place c.args.piece) text (c.loop-place.invariant.seen told before text was),
    ))

pub loop-place-preserved : goal.loop-place-preserved
loop-place-preserved c =
    let was = c.loop-place.invariant in
    let p = c.args.port.now in
    let place = c.loop-place.place in
    let s = c.index-seen-place.result in
    let within : place < length c.args.piece = omega (arith, c.loop-place-test.true, c.len-count.ensures) in
    let next = next_ahead c.args.piece place c.loop-place.self.held.ahead was.ahead within in
    let here = c.in_ok-take_in.ensures.seen next.frame next.others next.there in
    record {
      bounded = c.take_in.ensures.bounded;
      ahead = here.0 ∙ next.behind;
      records = omega (arith, was.records, c.take_in.ensures.records);
      seen = λ told before text at.
          let there = seen_there (λ f s. IsSeenOf p f s) c.args.piece place c.loop-place.self.held.ahead next c.args.seen.now told within s c.index-seen-place.is in
          joined p text before [] c.take_in.new.self c.args.piece place c.loop-place.self.held.ahead next (here.1 there (before ++ take place c.args.piece) text (was.seen told before text at));
    }
