use Rattle.std.proofs.Common.{length, length-append, ap, ◌∙◌, arith}
use Rattle.ds_conductor.specs.Lanings.{count_of}
use Rattle.ds_marking.specs.Writings.{failures_with, is_write_fault}
use Rattle.ds_conductor.proofs.LaningLaws.{count_of-end, drained, fed_end, front_more}
use Rattle.ds_conductor.proofs.feeding.feed_lots.Goals as goal

pub returns-in-Ok-clause-even : goal.returns-in-Ok-clause-even
returns-in-Ok-clause-even g c =
    let more = c.discard.ensures.more in
    let a = ap length more.1 in
    let b = length-append c.drain-left.new.taking.taken more.0 in
    let d = more.2 in
    let e = c.drain-left.ensures.count in
    let f = c.feed-way.ensures.even in
    let h = ap count_of c.send.ensures.put ∙ count_of-end c.feed-way.new.between.to.put in
    omega (arith, a, b, d, e, f, h)

pub returns-in-Ok-clause-fed : goal.returns-in-Ok-clause-fed
returns-in-Ok-clause-fed g c =
    let put = c.feed-way.new.between.to.put in
    let fed = c.feed-way.ensures.fed in record {
      fed = fed_end c.args.shift.now.port.now _ _ _ _ _ put _ _ c.send.ensures.put fed.fed;
      given = fed.given;
      missing = fed.missing;
      fewer = fed.fewer;
      reads = fed.reads;
      no_write = fed.no_write;
    }

pub returns-in-Ok-clause-written : goal.returns-in-Ok-clause-written
returns-in-Ok-clause-written g c =
    let more = c.discard.ensures.more in
    let held = g.O.Outlet.held c.args.outlet.now in
    let fed = rw c.in-Ok.is at c.feed-way.ensures.written in
    let last = c.drain-left.ensures.written in record {
      told = λ tells. last.told (fed.told tells);
      written = λ tells.
          drained c.drain-left.result.1 held _ c.drain-left.new.taking.taken _ more.0 _ more.1 more.2 c.drain-left.ensures.none (last.written (fed.told tells) held (fed.written tells));
      fault = last.fault;
      failures = last.failures ∙ ap (failures_with (is_write_fault c.drain-left.result.1)) fed.failures;
    }

pub returns-in-Err-clause-even : goal.returns-in-Err-clause-even
returns-in-Err-clause-even g c =
    let more = c.discard-in-Err.ensures.more in
    let a = ap length more.1 in
    let b = length-append c.feed-way.new.between.from.taken more.0 in
    let d = more.2 in
    let f = c.feed-way.ensures.even in
    let h = ap count_of c.send.ensures.put ∙ count_of-end c.feed-way.new.between.to.put in
    omega (arith, a, b, d, f, h)

pub returns-in-Err-clause-fed : goal.returns-in-Err-clause-fed
returns-in-Err-clause-fed g c =
    let put = c.feed-way.new.between.to.put in
    let fed = rw c.in-Err.is at c.feed-way.ensures.fed in record {
      fed = fed_end c.args.shift.now.port.now _ _ _ _ _ put _ _ c.send.ensures.put fed.fed;
      given = fed.given;
      missing = fed.missing;
      fewer = fed.fewer;
      reads = fed.reads;
      no_write = fed.no_write;
    }

pub returns-in-Err-clause-written : goal.returns-in-Err-clause-written
returns-in-Err-clause-written g c =
    let more = c.discard-in-Err.ensures.more in
    let fed = rw c.in-Err.is at c.feed-way.ensures.written in record {
      told = fed.told;
      written = λ tells. front_more (g.O.Outlet.held c.args.outlet.now) c.feed-way.new.between.from.taken _ more.0 _ more.1 (fed.written tells);
      fault = fed.fault;
      failures = fed.failures;
    }
