use Rattle.std.proofs.Common.{◌++◌, List, [], append-nil, refl, subst, sym, true}
use Rattle.pcap_capture.specs.Frames.{FrameValue}
use Rattle.capture_reader.specs.Readings.{IsUnderway}
use Rattle.ds_conditioner.specs.Conditionings.{IsConditioned}
use Rattle.ds_conditioner.specs.declared.conditioner.Conditioner.{Conditioner}
use Rattle.ds_marking.proofs.marking.see_read.Goals as goal

pub returns-clause-read : goal.returns-clause-read
returns-clause-read c = λ gone bytes more at.
    subst (λ (fs : List FrameValue). IsUnderway (gone ++ fs) bytes more c.change_piece-piece.new.self) c.change_piece-piece.ensures.taken (c.change_piece-piece.ensures.read gone bytes more at)

pub returns-clause-seen : goal.returns-clause-seen
returns-clause-seen c = rw (c.change_piece-piece.ensures.taken, c.spent.ensures.same) at c.see_all.ensures.seen

pub returns-clause-unseen : goal.returns-clause-unseen
returns-clause-unseen c = rw (c.change_piece-piece.ensures.taken, c.spent.ensures.same) at c.see_all.ensures.unseen

pub returns-then-not-has_room_for-clause-read : goal.returns-then-not-has_room_for-clause-read
returns-then-not-has_room_for-clause-read c = λ gone bytes more at.
    subst (λ (fs : List FrameValue). IsUnderway (gone ++ fs) bytes more c.change_piece-piece.new.self) c.change_piece-piece.ensures.taken (c.change_piece-piece.ensures.read gone bytes more at)

pub returns-then-not-has_room_for-clause-unseen : goal.returns-then-not-has_room_for-clause-unseen
returns-then-not-has_room_for-clause-unseen c = λ before text was. (
  [],
  c.args.progress.now.piece,
  refl,
  subst (λ (fs : List FrameValue). IsConditioned c.args.port.now true fs text c.spent.new.self) (sym (append-nil before))
      (subst (λ (d : Conditioner). IsConditioned c.args.port.now true before text d) (sym c.spent.ensures.same) was),
)
