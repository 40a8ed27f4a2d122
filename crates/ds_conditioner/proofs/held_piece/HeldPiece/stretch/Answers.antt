use Rattle.std.proofs.Common.{◌≡◌, [], ap, sym, ◌∙◌, arith, length}
use Rattle.std.proofs.lemmas.Result.{IfOk-weaker}
use Rattle.std.specs.Arc.{arc_value}
use Rattle.ds_conditioner.specs.Helds.{HeldFramesValue}
use Rattle.ds_conditioner.specs.Notes.{shared_frames}
use Rattle.ds_conditioner.specs.Stretches.{StretchValue, between, frames_held}
use Rattle.ds_conditioner.proofs.StretchLaws.{held_between_places}
use Rattle.ds_conditioner.proofs.held_piece.HeldPiece.stretch.Goals as goal

pub returns : goal.returns
returns c =
    let notes = c.self.inside.notes.items in
    let next = c.self.inside.next in
    let count : c.len.result ≡ length notes = omega (arith, c.len.ensures, c.self.inside.notes.ok.0) in
    let own : between next c.len.result (arc_value c.in-Some.piece) ≡ frames_held c.args.self.now.held =
    ap (λ n. between next n (arc_value c.in-Some.piece)) count ∙ ap (λ o. between next (length notes) (shared_frames o)) (sym c.in-Some.is)
    ∙ held_between_places (shared_frames c.self.inside.piece) notes next c.self.invariant.there ∙ ap (λ (h : HeldFramesValue). frames_held h.held) c.self.view_is in
    IfOk-weaker c.new.result _ _ (λ s is. is ∙ ap (λ fs. let t : StretchValue = record { text = []; coming = fs } in t) own) c.new.ensures
