use Rattle.std.proofs.Common.{length, ap, arith, ◌∙◌}
use Rattle.pcap_capture.specs.Frames.{text_of}
use Rattle.pcap_capture.proofs.PieceLaws.{cut_room, length-frames, text_whole}
use Rattle.pcap_capture.proofs.piece.Piece.text.Goals as goal

pub returns-clause-value : goal.returns-clause-value
returns-clause-value c =
    c.as_slice.ensures ∙ text_whole c.self.inside.text c.self.inside.entries.items c.self.invariant ∙ ap text_of c.self.view_is

pub returns-clause-room : goal.returns-clause-room
returns-clause-room c =
    let text = c.self.inside.text in
    let entries = c.self.inside.entries.items in
    let room = cut_room text 0 entries (length text) c.self.invariant in
    omega (arith, room, ap length c.as_slice.ensures, ap length c.self.view_is, length-frames text 0 entries)
