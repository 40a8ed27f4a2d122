use Rattle.std.proofs.Common.{[], Result, Ok, Err, ap, arith, ◌∙◌}
use Rattle.pcap_capture.proofs.CountLaws.{reads_from}
use Rattle.pcap_capture.specs.Takings.{is_read_fault}
use Rattle.pcap_capture.specs.declared.fault.PcapFault.{PcapFault}
use Rattle.capture_reader.specs.declared.opening.Opening.{Opening}
use Rattle.capture_reader.proofs.ReadingLaws.{cut_short, unheaded}
use Rattle.capture_reader.proofs.reading.read_opening.Goals as goal

pub loop-progress-preserved : goal.loop-progress-preserved
loop-progress-preserved g c =
    let was = c.loop-progress.invariant in
    let next = c.in-Ok.ensures.piece in
    record {
      missing = omega (arith, next.missing, was.missing);
      told = λ tells. next.told (was.told tells);
      unfailed = next.reads ∙ was.unfailed;
      read = λ bytes tells at. next.read [] bytes (was.told tells) (was.read bytes tells at);
    }

pub returns-in-Err-clause-read : goal.returns-in-Err-clause-read
returns-in-Err-clause-read g c = λ bytes tells at.
    let was = c.loop-progress.invariant.read bytes tells at in
    unheaded bytes _ c.loop-progress.progress c.take_piece.new.progress c.in-Err.fault c.in_default.is c.in-Err.ensures.opening
    (c.in-Err.ensures.piece.read [] bytes (c.loop-progress.invariant.told tells) was)

pub returns-then-taken-eq0-clause-read : goal.returns-then-taken-eq0-clause-read
returns-then-taken-eq0-clause-read g c = λ bytes tells at.
    let was = c.loop-progress.invariant.read bytes tells at in
    let given = c.loop-progress.invariant.told tells in
    cut_short bytes _ c.take_piece.new.progress (c.in-Ok.ensures.end given (ap Ok c.if-taken-eq0.true))
    (c.in-Ok.ensures.still (ap Ok c.if-taken-eq0.true) [] bytes _ was ∙ c.in_default.is) (c.in-Ok.ensures.piece.read [] bytes given was)

pub returns-then-taken-eq0-clause-reads : goal.returns-then-taken-eq0-clause-reads
returns-then-taken-eq0-clause-reads g c = c.in-Ok.ensures.piece.reads ∙ c.loop-progress.invariant.unfailed

pub returns-in-Err-clause-reads : goal.returns-in-Err-clause-reads
returns-in-Err-clause-reads g c =
    let unread : Result Opening PcapFault = Err c.in-Err.fault in
    reads_from (is_read_fault unread) _ _ _ _ c.loop-progress.invariant.unfailed c.in-Err.ensures.piece.reads
