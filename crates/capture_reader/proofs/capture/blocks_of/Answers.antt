use Rattle.std.proofs.lemmas.Result.{err_from_is_err_and}
use Rattle.pcapng_capture.specs.Grammar as newer
use Rattle.pcapng_capture.specs.Readings as readings
use Rattle.capture_reader.proofs.CaptureLaws.{blocks_first, blocks_stop}
use Rattle.capture_reader.proofs.capture.blocks_of.Goals as goal

pub returns-in_err-feed-clause-err : goal.returns-in_err-feed-clause-err
returns-in_err-feed-clause-err c =
    let stops : readings.Stops (newer.prepend c.args.out.now (newer.capture c.args.bytes.now)) c.feed.new.out c.in_err-feed.field-0.0 = rw c.begin-capture.ensures.value at c.in_err-feed.ensures.err.1 in
    let p = err_from_is_err_and c.from_residual.result c.from_residual.ensures.1 in
    rw (p.1, p.2) (blocks_stop c.args.bytes.now c.requires c.args.out.now c.feed.new.out c.in_err-feed.field-0.0 stops)

pub returns-clause-ok : goal.returns-clause-ok
returns-clause-ok c = blocks_first c.args.bytes.now c.requires c.args.out.now c.feed.new.out c.feed.new.self (rw c.begin-capture.ensures.value at c.in_ok-feed.ensures.ok)
