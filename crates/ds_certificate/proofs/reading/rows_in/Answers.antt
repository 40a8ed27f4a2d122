use Rattle.std.proofs.Common.{inl, inr, sym, ◌∙◌, arith}
use Rattle.line_text.specs.Lines.{lines_of}
use Rattle.ds_certificate.proofs.ReadingLaws.{rows_in-bad, rows_in-contract, read_whole, rows_in-excess}
use Rattle.ds_certificate.proofs.ShapeLaws.{rows_in-shape}
use Rattle.ds_certificate.proofs.reading.rows_in.Goals as goal

pub returns-in-Err-clause-refused : goal.returns-in-Err-clause-refused
returns-in-Err-clause-refused c = elim c.in-Err.ensures.refused [
  | inl memory ↦ inl memory
  | inr bad ↦ inr (sym c.loop-contract.invariant
      ∙ rows_in-bad c.args.form c.loop-contract.rows.items c.args.contracts.now c.loop-contract.contract-index c.contract-item.result (lines_of c.loop-contract.rest.now) c.in-Err.fault
      c.loop-contract-test.true c.contract-item.is (rw c.contract.ensures at bad))
]

pub loop-contract-preserved : goal.loop-contract-preserved
loop-contract-preserved c =
    sym (rows_in-contract c.args.form c.loop-contract.rows.items c.push.new.self.items c.args.contracts.now c.loop-contract.contract-index c.contract-item.result (lines_of c.loop-contract.rest.now)
    (lines_of c.in-Ok.later.now) c.in-Ok.bounds c.loop-contract-test.true c.contract-item.is (rw c.contract.ensures at c.in-Ok.ensures.bounds) c.in_ok-push-in-Ok.ensures.items)
    ∙ c.loop-contract.invariant

pub returns-in-None-clause-certificate : goal.returns-in-None-clause-certificate
returns-in-None-clause-certificate c =
    read_whole c.args.form c.args.contracts.now (lines_of c.args.text.now) c.loop-contract.rows.items c.new.result c.loop-contract.contract-index (lines_of c.loop-contract.rest.now)
    (omega arith) c.in-None.ensures c.loop-contract.invariant c.new.ensures

pub returns-in-None-clause-shape : goal.returns-in-None-clause-shape
returns-in-None-clause-shape c =
    rows_in-shape c.args.form c.args.contracts.now (lines_of c.args.text.now) c.new.result
    (read_whole c.args.form c.args.contracts.now (lines_of c.args.text.now) c.loop-contract.rows.items c.new.result c.loop-contract.contract-index (lines_of c.loop-contract.rest.now)
    (omega arith) c.in-None.ensures c.loop-contract.invariant c.new.ensures)

pub returns-in-Some-clause-refused : goal.returns-in-Some-clause-refused
returns-in-Some-clause-refused c =
    inr (sym c.loop-contract.invariant
    ∙ rows_in-excess c.args.form c.loop-contract.rows.items c.args.contracts.now c.loop-contract.contract-index (lines_of c.loop-contract.rest.now) c.in-Some.fault (omega arith) c.in-Some.ensures)

pub bounds-contracts-contract-index : goal.bounds-contracts-contract-index
bounds-contracts-contract-index c = c.loop-contract-test.true

pub offset_bounds-contracts-contract-index : goal.offset_bounds-contracts-contract-index
offset_bounds-contracts-contract-index c = omega (arith, c.loop-contract-test.true)

pub loop-contract-smaller : goal.loop-contract-smaller
loop-contract-smaller c = omega (arith, c.loop-contract-test.true)
