use Rattle.std.proofs.Common.{◌≡◌, List, sym, subst, ◌∙◌}
use Rattle.pcap_capture.specs.Frames.{FrameValue}
use Rattle.frame_marker.specs.declared.sight.Seen.{Seen}
use Rattle.ds_conditioner.specs.Conditionings.{AreSeenInPart, AreSeenOf}
use Rattle.ds_conditioner.specs.declared.conditioner.Conditioner.{Conditioner}
use Rattle.ds_conditioner.proofs.conditioner.Conditioner.take_lot.Goals as goal

pub returns-in-Some-clause-unseen : goal.returns-in-Some-clause-unseen
returns-in-Some-clause-unseen c told =
    let p = c.args.port.now in
    let parts = rw c.in-Some.is at c.parts-piece.ensures.seen in
    let frames = c.parts-piece.ensures.frames in
    let seen : c.as_slice.result.now ≡ c.args.lot.seen = c.as_slice.ensures.value ∙ parts.1 in
    subst (λ (old : Conditioner). AreSeenInPart c.take_all.result p old c.take_all.new.self c.args.lot.frames) c.guess.ensures
    (subst (λ (fs : List FrameValue). AreSeenInPart c.take_all.result p c.guess.new.self c.take_all.new.self fs) frames
    (c.take_all.ensures.unseen (subst (λ (fs : List FrameValue). AreSeenOf p fs c.as_slice.result.now) (sym frames) (subst (λ (ss : List Seen). AreSeenOf p c.args.lot.frames ss) (sym seen) (told parts.0)))))

pub returns-in-None-clause-unseen : goal.returns-in-None-clause-unseen
returns-in-None-clause-unseen c told =
    subst (λ (old : Conditioner). AreSeenInPart c.see_all.result c.args.port.now old c.see_all.new.self c.args.lot.frames) c.guess.ensures
    (subst (λ (fs : List FrameValue). AreSeenInPart c.see_all.result c.args.port.now c.guess.new.self c.see_all.new.self fs) c.parts-piece.ensures.frames c.see_all.ensures.unseen)
