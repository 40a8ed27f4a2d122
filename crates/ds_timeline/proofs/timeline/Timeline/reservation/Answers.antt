use Rattle.std.proofs.Common.{sym, ap, ◌∙◌, slice_get}
use Rattle.ds_timeline.specs.Timelines.{reservation_of}
use Rattle.ds_timeline.proofs.NumberedLaws.{numbered-found}
use Rattle.ds_timeline.proofs.timeline.Timeline.reservation.Goals as goal

pub returns : goal.returns
returns c =
    let rs = c.self.inside.reservations.items in
    c.at_flow.ensures ∙ ap (λ list. slice_get list c.args.flow) c.as_slice.ensures.value
    ∙ sym (numbered-found c.args.flow rs c.self.invariant.timeline.numbered) ∙ ap (λ t. reservation_of t c.args.flow) c.self.view_is
