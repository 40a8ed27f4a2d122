use Rattle.std.proofs.Common.{arith}
use Rattle.line_text.specs.Lines.{lines_of}
use Rattle.ds_certificate.proofs.PlaceLaws.{rows_said-count, said_all, said_last, said_more, said_on}
use Rattle.ds_certificate.proofs.place.rows_said.Goals as goal

pub overflow_add-lines : goal.overflow_add-lines
overflow_add-lines c =
    omega (
      arith,
      rows_said-count c.args.form c.args.contracts.now c.args.text.now,
      said_more c.args.form c.args.contracts.now c.loop-contract.contract-index c.contract-item.result (lines_of c.loop-contract.rest.now) c.loop-contract.lines c.bounds_said-said.result.0 _
          c.loop-contract-test.true c.contract-item.is (rw c.contract-contract.ensures at c.bounds_said-said.ensures.lines) c.loop-contract.invariant,
    )

pub returns-then-said-hops-clause-lines : goal.returns-then-said-hops-clause-lines
returns-then-said-hops-clause-lines c =
    said_last c.args.form c.args.contracts.now c.loop-contract.contract-index c.contract-item.result (lines_of c.loop-contract.rest.now) c.loop-contract.lines c.bounds_said-said.result.0 _ _
    c.loop-contract-test.true c.contract-item.is (rw c.contract-contract.ensures at c.bounds_said-said.ensures.lines) c.loop-contract.invariant (rw c.contract-contract.ensures at c.hops.ensures.value) c.if-said-hops.true

pub returns-then-said-hops-clause-within : goal.returns-then-said-hops-clause-within
returns-then-said-hops-clause-within c =
    omega (
      arith,
      rows_said-count c.args.form c.args.contracts.now c.args.text.now,
      said_more c.args.form c.args.contracts.now c.loop-contract.contract-index c.contract-item.result (lines_of c.loop-contract.rest.now) c.loop-contract.lines c.bounds_said-said.result.0 _
          c.loop-contract-test.true c.contract-item.is (rw c.contract-contract.ensures at c.bounds_said-said.ensures.lines) c.loop-contract.invariant,
    )

pub loop-contract-preserved : goal.loop-contract-preserved
loop-contract-preserved c =
    said_on c.args.form c.args.contracts.now c.loop-contract.contract-index c.contract-item.result (lines_of c.loop-contract.rest.now) (lines_of c.bounds_said-said.result.1.now) c.loop-contract.lines
    c.bounds_said-said.result.0 _ _ c.loop-contract-test.true c.contract-item.is (rw c.contract-contract.ensures at c.bounds_said-said.ensures.lines) c.bounds_said-said.ensures.rest c.loop-contract.invariant
    (rw c.contract-contract.ensures at c.hops.ensures.value) c.if-said-hops.false

pub returns-clause-lines : goal.returns-clause-lines
returns-clause-lines c =
    said_all c.args.form c.args.contracts.now c.loop-contract.contract-index (lines_of c.loop-contract.rest.now) c.loop-contract.lines _ (omega arith) c.loop-contract.invariant

pub returns-clause-within : goal.returns-clause-within
returns-clause-within c =
    omega (
      arith,
      rows_said-count c.args.form c.args.contracts.now c.args.text.now,
      said_all c.args.form c.args.contracts.now c.loop-contract.contract-index (lines_of c.loop-contract.rest.now) c.loop-contract.lines _ (omega arith) c.loop-contract.invariant,
    )
