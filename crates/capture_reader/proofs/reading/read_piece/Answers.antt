use Rattle.std.proofs.Common.{Ok, ap, sym}
use Rattle.capture_reader.proofs.PieceLaws.{piece_ended}
use Rattle.capture_reader.proofs.reading.read_piece.Goals as goal

pub returns-then-taken-eq0 : goal.returns-then-taken-eq0
returns-then-taken-eq0 g c =
    piece_ended _ _ _ _ _ _ _ c.take_piece.new.progress c.finish.new.progress c.finish.result _ c.in-Ok.ensures.piece (λ tells. c.in-Ok.ensures.end tells (ap Ok c.if-taken-eq0.true))
    c.finish.ensures.read c.finish.ensures.missing c.finish.ensures.opening c.finish.ensures.full c.finish.ensures.fault (sym c.finish.ensures.full)
