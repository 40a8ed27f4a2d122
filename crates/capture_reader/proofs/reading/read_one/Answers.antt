use Rattle.std.proofs.Common.{Ok, arith, ap}
use Rattle.capture_reader.proofs.PieceLaws.{piece_ended, piece_failed}
use Rattle.capture_reader.proofs.SizeLaws.{unfilled}
use Rattle.capture_reader.proofs.reading.read_one.Goals as goal

pub returns-in-Err : goal.returns-in-Err
returns-in-Err g c = piece_failed _ _ _ _ _ _ _ _ c.in-Err.fault _ _ c.in-Err.ensures.piece

pub returns-then-taken-eq0 : goal.returns-then-taken-eq0
returns-then-taken-eq0 g c =
    rw c.ended.ensures.read (rw c.ended.ensures.full
    (piece_ended _ _ _ _ _ _ _ c.take_piece.new.progress c.finish.new.progress c.finish.result _ c.in-Ok.ensures.piece (λ tells. c.in-Ok.ensures.end tells (ap Ok c.if-taken-eq0.true))
    c.finish.ensures.read c.finish.ensures.missing c.finish.ensures.opening c.finish.ensures.full c.finish.ensures.fault
    (unfilled c.in-Ok.taken _ c.in-Ok.ensures.full (omega (arith, c.if-taken-eq0.true)))))
