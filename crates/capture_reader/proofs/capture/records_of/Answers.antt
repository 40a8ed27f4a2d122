use Rattle.std.proofs.lemmas.Result.{err_from_is_err_and}
use Rattle.pcap_capture.specs.Grammar as classic
use Rattle.capture_reader.proofs.CaptureLaws.{records_first, records_stop}
use Rattle.capture_reader.proofs.capture.records_of.Goals as goal

pub returns-in_err-feed-clause-err : goal.returns-in_err-feed-clause-err
returns-in_err-feed-clause-err c =
    let stops : classic.Stops (classic.prepend c.args.out.now (classic.capture c.args.bytes.now)) c.feed.new.out c.in_err-feed.field-0.0 = rw c.begin-capture.ensures.value at c.in_err-feed.ensures.err.1 in
    let p = err_from_is_err_and c.from_residual.result c.from_residual.ensures.1 in
    rw (p.1, p.2) (records_stop c.args.bytes.now c.args.heading c.requires c.args.out.now c.feed.new.out c.in_err-feed.field-0.0 stops)

pub returns-clause-opened : goal.returns-clause-opened
returns-clause-opened c =
    (records_first c.args.bytes.now c.args.heading c.requires c.args.out.now c.feed.new.out c.feed.new.self (rw c.begin-capture.ensures.value at c.in_ok-feed.ensures.ok)).1

pub returns-clause-ok : goal.returns-clause-ok
returns-clause-ok c =
    (records_first c.args.bytes.now c.args.heading c.requires c.args.out.now c.feed.new.out c.feed.new.self (rw c.begin-capture.ensures.value at c.in_ok-feed.ensures.ok)).0
