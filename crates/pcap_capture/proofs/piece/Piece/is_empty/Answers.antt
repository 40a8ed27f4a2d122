use Rattle.std.proofs.Common.{length, ◌==◌, sym, ap, ◌∙◌}
use Rattle.pcap_capture.proofs.PieceLaws.{length-frames}
use Rattle.pcap_capture.proofs.piece.Piece.is_empty.Goals as goal

pub returns : goal.returns
returns c =
    c.is_empty.ensures
    ∙ ap (λ n. n == 0) (c.self.inside.entries.ok.0 ∙ sym (length-frames c.self.inside.text 0 c.self.inside.entries.items) ∙ ap length c.self.view_is)
