use Rattle.std.proofs.Common.{◌≡◌, ℕ, List, ◌∷◌, [], ◌++◌, ◌+◌, max, ap, ap₂, sym, ◌∙◌, append-nil, append_assoc, arith, refl, take}
use Rattle.std.proofs.lemmas.List.{take_more}
use Rattle.pcap_capture.specs.Frames.{FrameValue}
use Rattle.dsedge_arrivals.specs.Arrivals.{line_at, lines_from, newest_in, sight_in}
use Rattle.dsedge_arrivals.proofs.ArrivalLaws.{lines_from-one, newest_in-one}
use Rattle.dsedge_arrivals.proofs.filter.ArrivalFilter.push_piece.Goals as goal

pub loop-place-init : goal.loop-place-init
unfolding newest_in lines_from
loop-place-init c = record { now = refl; lines = sym (append-nil c.args.out.now.items) }

pub loop-place-preserved : goal.loop-place-preserved
loop-place-preserved c =
    let frames = c.args.piece.now in
    let f = c.frame-frame.result in
    let first = take c.loop-place.place frames in
    let more : take (c.loop-place.place + 1) frames ≡ first ++ f ∷ [] =
    take_more frames c.loop-place.place f (omega (arith, c.len-place-end.ensures)) ∙ ap (λ (g : FrameValue). first ++ g ∷ []) (sym c.frame-frame.ensures) in
    let now : c.later-now.result ≡ max (newest_in c.args.newest first) f.moment =
    c.later-now.ensures ∙ ap₂ max c.loop-place.invariant.now c.moment.ensures in
    let line = line_at c.args.self.now (sight_in c.args.self.now.port f) in
    let before = c.args.out.now.items in
    let so_far = lines_from c.args.self.now c.args.newest first in
    record {
      now = now ∙ sym (newest_in-one c.args.newest first f) ∙ ap (newest_in c.args.newest) (sym more);
      lines = c.in_ok-push_frame.ensures
          ∙ ap (λ (out : List ℕ). out ++ line c.later-now.result) c.loop-place.invariant.lines
          ∙ append_assoc before so_far (line c.later-now.result)
          ∙ ap (λ (m : ℕ). before ++ (so_far ++ line m)) now
          ∙ ap (λ (t : List ℕ). before ++ t) (sym (lines_from-one c.args.self.now c.args.newest first f))
          ∙ ap (λ (fs : List FrameValue). before ++ lines_from c.args.self.now c.args.newest fs) (sym more);
    }
