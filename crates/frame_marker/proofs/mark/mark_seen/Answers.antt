use Rattle.std.proofs.Common.{List, ℕ, ◌++◌, None, Some, take, subst, sym, ap, ◌∙◌, arith}
use Rattle.frame_marker.specs.Frames.{marked_as}
use Rattle.frame_marker.specs.Packets.{CanBeMarked}
use Rattle.frame_marker.proofs.SeenLaws.{is_framed, is_seen, put_back, whole_back}
use Rattle.frame_marker.proofs.mark.mark_seen.Goals as goal

pub slice_bounds-mark_packet-count : goal.slice_bounds-mark_packet-count
slice_bounds-mark_packet-count c = (is_seen c.args.mark c.in-Some.mark c.args.bytes.now c.in-Some.is c.requires).within

pub slice_bounds-mark_packet-start : goal.slice_bounds-mark_packet-start
slice_bounds-mark_packet-start c =
    omega (arith, (is_seen c.args.mark c.in-Some.mark c.args.bytes.now c.in-Some.is c.requires).within)

pub mark_packet-requires : goal.mark_packet-requires
mark_packet-requires c =
    subst (λ (packet : List ℕ). CanBeMarked c.in-Some.mark.family c.in-Some.mark.verified packet) (sym (whole_back c.in-Some.mark.start c.args.bytes.now))
    (is_seen c.args.mark c.in-Some.mark c.args.bytes.now c.in-Some.is c.requires).can

pub returns-in-Some : goal.returns-in-Some
returns-in-Some c link is =
    let start = c.in-Some.mark.start in
    let bytes = c.args.bytes.now in
    put_back start bytes c.mark_packet.new.packet
    ∙ ap (λ back. take start bytes ++ back) (c.mark_packet.ensures ∙ ap (marked_as c.in-Some.mark.family c.args.dscp) (whole_back start bytes))
    ∙ is_framed link (Some c.in-Some.mark) c.args.dscp bytes (sym c.in-Some.is ∙ is)

pub returns-in_default : goal.returns-in_default
returns-in_default c link is = is_framed link None c.args.dscp c.args.bytes.now (sym c.in_default.is ∙ is)
