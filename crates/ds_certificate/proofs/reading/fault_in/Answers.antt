use Rattle.std.proofs.Common.{[], arith}
use Rattle.line_text.specs.Lines.{lines_of}
use Rattle.ds_certificate.proofs.ReadingLaws.{fault-bad, fault-ended, fault-on, rows_in-bad}
use Rattle.ds_certificate.proofs.reading.fault_in.Goals as goal

pub returns-in-Err : goal.returns-in-Err
returns-in-Err c =
    fault-bad _ _ c.in-Err.fault
    (rows_in-bad c.args.form [] c.args.contracts.now c.loop-contract.contract-index c.contract-item.result (lines_of c.loop-contract.rest.now) c.in-Err.fault
    c.loop-contract-test.true c.contract-item.is (rw c.contract.ensures at c.in-Err.ensures.refused)) c.loop-contract.invariant

pub loop-contract-preserved : goal.loop-contract-preserved
loop-contract-preserved c =
    fault-on c.args.form c.args.contracts.now c.loop-contract.contract-index c.contract-item.result (lines_of c.loop-contract.rest.now) (lines_of c.in-Ok.later.now) _
    c.loop-contract-test.true c.contract-item.is (rw c.contract.ensures at c.in-Ok.ensures.behind) c.loop-contract.invariant

pub returns : goal.returns
returns c =
    fault-ended c.args.form c.args.contracts.now c.loop-contract.contract-index (lines_of c.loop-contract.rest.now) _ _ (omega arith) c.surplus_in.ensures c.loop-contract.invariant
