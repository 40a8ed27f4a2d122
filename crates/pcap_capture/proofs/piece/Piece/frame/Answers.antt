use Rattle.std.proofs.Common.{rules, ◌≡◌, ◌≤◌, ◌-◌, List, drop, get_or, length, take, refl, subst, sym, ap, ◌∙◌, arith, length-drop}
use Rattle.std.proofs.lemmas.List.{length-take-le}
use Rattle.pcap_capture.specs.Frames.{FrameValue, frame_at}
use Rattle.pcap_capture.specs.Pieces.{IsPlaced}
use Rattle.pcap_capture.proofs.PieceLaws.{behind_first, first_at, place_in}
use Rattle.pcap_capture.proofs.piece.Piece.frame.Goals as goal

pub index-entry-requires : goal.index-entry-requires
index-entry-requires c =
    place_in c.self.inside.text c.self.inside.entries.items c.args.self.now c.args.place _ c.self.view_is c.requires c.self.inside.entries.ok.0

pub slice_bounds-of-end : goal.slice_bounds-of-end
slice_bounds-of-end c =
    let text = c.self.inside.text in
    let entries = c.self.inside.entries.items in
    let entry = c.index-entry.result.now in
    let place = c.if-place-eq0.true in
    let there = place_in text entries c.args.self.now c.args.place (length entries) c.self.view_is c.requires refl in
    let at = first_at text 0 entries (length text) entry c.self.invariant (omega arith) (c.index-entry.ensures ∙ ap (λ i. get_or entries i entry) place) in
    sym (length-take-le entry.end c.as_slice.result.now (omega (arith, ap length c.as_slice.ensures, at.within)))

pub of-requires : goal.of-requires
of-requires c =
    let text = c.self.inside.text in
    let entries = c.self.inside.entries.items in
    let entry = c.index-entry.result.now in
    let place = c.if-place-eq0.true in
    let there = place_in text entries c.args.self.now c.args.place (length entries) c.self.view_is c.requires refl in
    let at = first_at text 0 entries (length text) entry c.self.invariant (omega arith) (c.index-entry.ensures ∙ ap (λ i. get_or entries i entry) place) in
    let size = length-take-le entry.end c.as_slice.result.now (omega (arith, ap length c.as_slice.ensures, at.within)) in
    let from_zero : entry.end - 0 ≡ length (take entry.end c.as_slice.result.now) = omega (arith, size) in
    subst (λ n. IsPlaced entry.place n) from_zero at.placed

pub index-before-requires : goal.index-before-requires
index-before-requires c =
    let more = place_in c.self.inside.text c.self.inside.entries.items c.args.self.now c.args.place _ c.self.view_is c.requires c.self.inside.entries.ok.0 in
    omega (arith, more)

pub slice_bounds-of-count : goal.slice_bounds-of-count
slice_bounds-of-count c =
    let text = c.self.inside.text in
    let entries = c.self.inside.entries.items in
    let there = place_in text entries c.args.self.now c.args.place (length entries) c.self.view_is c.requires refl in
    let at = behind_first text entries c.args.place c.index-before.result.now c.index-entry.result.now c.self.invariant c.if-place-eq0.false there c.index-before.ensures c.index-entry.ensures in
    let placed = at.placed in omega (arith, placed)

pub slice_bounds-of-start : goal.slice_bounds-of-start
slice_bounds-of-start c =
    let text = c.self.inside.text in
    let entries = c.self.inside.entries.items in
    let there = place_in text entries c.args.self.now c.args.place (length entries) c.self.view_is c.requires refl in
    let at = behind_first text entries c.args.place c.index-before.result.now c.index-entry.result.now c.self.invariant c.if-place-eq0.false there c.index-before.ensures c.index-entry.ensures in
    let placed = at.placed in omega (arith, placed)

pub slice_bounds-of-end-2 : goal.slice_bounds-of-end-2
slice_bounds-of-end-2 c =
    let text = c.self.inside.text in
    let entries = c.self.inside.entries.items in
    let there = place_in text entries c.args.self.now c.args.place (length entries) c.self.view_is c.requires refl in
    let at = behind_first text entries c.args.place c.index-before.result.now c.index-entry.result.now c.self.invariant c.if-place-eq0.false there c.index-before.ensures c.index-entry.ensures in
    let within : c.index-entry.result.now.end ≤ length c.as_slice-2.result.now = omega (arith, at.within, ap length c.as_slice-2.ensures) in
    search (rules, within)

pub of-requires-2 : goal.of-requires-2
of-requires-2 c =
    let text = c.self.inside.text in
    let entries = c.self.inside.entries.items in
    let before = c.index-before.result.now in
    let entry = c.index-entry.result.now in
    let whole = c.as_slice-2.result.now in
    let there = place_in text entries c.args.self.now c.args.place (length entries) c.self.view_is c.requires refl in
    let at = behind_first text entries c.args.place before entry c.self.invariant c.if-place-eq0.false there c.index-before.ensures c.index-entry.ensures in
    let size = length-take-le (entry.end - before.end) (drop before.end whole) (omega (arith, length-drop before.end whole, ap length c.as_slice-2.ensures, at.within)) in
    subst (λ n. IsPlaced entry.place n) (sym size) at.placed

pub returns : goal.returns
returns c =
    let text = c.self.inside.text in
    let entries = c.self.inside.entries.items in
    let before = c.index-before.result.now in
    let entry = c.index-entry.result.now in
    let there = place_in text entries c.args.self.now c.args.place (length entries) c.self.view_is c.requires refl in
    let at = behind_first text entries c.args.place before entry c.self.invariant c.if-place-eq0.false there c.index-before.ensures c.index-entry.ensures in
    c.of-2.ensures ∙ ap (λ bytes. frame_at (take (entry.end - before.end) (drop before.end bytes)) entry.place) c.as_slice-2.ensures
    ∙ sym (at.frame c.of-2.result) ∙ ap (λ (frames : List FrameValue). get_or frames c.args.place c.of-2.result) c.self.view_is
