use Rattle.std.proofs.Common.{◌∷◌, [], Result, Err, length, length-append, ap, ◌∙◌, arith}
use Rattle.ds_marking.specs.Writings.{failures_with, is_write_fault}
use Rattle.ds_marking.specs.declared.fault.MarkFault.{MarkFault}
use Rattle.ds_conductor.proofs.LaningLaws.{text_front, text_more}
use Rattle.ds_conductor.proofs.feeding.drain.Goals as goal

pub loop-left-preserved : goal.loop-left-preserved
loop-left-preserved g c =
    let was = c.loop-left.invariant in
    let text = c.write_next.ensures.text in record {
      lane = c.write_next.ensures.lane ∙ was.lane;
      told = λ tells. c.write_next.ensures.told (was.told tells);
      count = (let a = ap length text.1 in let b = length-append c.loop-left.taking.taken (text.0 ∷ []) in let n = was.count in omega (arith, a, b, n));
      written = λ tells first at. text_more first c.loop-left.taking.taken _ text.0 _ _ text.1 (was.written tells first at) ((rw c.in_default.is at text.2) (was.told tells));
      failures = c.in_default.ensures.failures ∙ was.failures;
    }

pub returns-in-Err-clause-written : goal.returns-in-Err-clause-written
returns-in-Err-clause-written g c =
    let was = c.loop-left.invariant in
    let text = c.write_next.ensures.text in
    let unwritten : Result (Unit {0}) MarkFault = Err c.in-Err.fault in record {
      told = λ tells. c.write_next.ensures.told (was.told tells);
      written = λ tells first at. text_front first c.loop-left.taking.taken _ text.0 _ _ text.1 (was.written tells first at) ((rw c.in-Err.is at text.2) (was.told tells));
      fault = c.in-Err.ensures.fault;
      failures = c.in-Err.ensures.failures ∙ ap (failures_with (is_write_fault unwritten)) was.failures;
    }

pub returns-clause-written : goal.returns-clause-written
returns-clause-written g c =
    let was = c.loop-left.invariant in record {
      told = was.told;
      written = was.written;
      fault = tt;
      failures = was.failures;
    }
