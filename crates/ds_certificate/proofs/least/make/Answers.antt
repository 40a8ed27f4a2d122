use Rattle.std.proofs.Common.{arith, ap, inl, inr, is_none, refl, subst, sym, ◌∙◌}
use Rattle.ds_certificate.specs.Bounds.{AreAtMost, IsCertificate}
use Rattle.ds_certificate.proofs.LeastLaws.{IsCertificate-least, all_fitting, kept_parts, least-below, least-made, none_fitting, one_fitting, rows_kept}
use Rattle.ds_certificate.proofs.least.make.Goals as goal

pub returns-in-Err-clause-refused : goal.returns-in-Err-clause-refused
returns-in-Err-clause-refused c =
    inr (
      refl,
      sym c.loop-contract.invariant.fitting
          ∙ none_fitting c.args.domain.now c.args.contracts.now c.loop-contract.contract-index c.contract-item.result c.loop-contract-test.true c.contract-item.is (ap is_none (rw c.contract-contract.ensures at c.in-Err.ensures)),
    )

pub loop-contract-preserved : goal.loop-contract-preserved
loop-contract-preserved c = record {
  fitting = one_fitting c.args.domain.now c.args.contracts.now c.loop-contract.contract-index c.contract-item.result c.loop-contract-test.true c.contract-item.is (ap is_none (rw c.contract-contract.ensures at c.in-Ok.ensures.0))
      ∙ c.loop-contract.invariant.fitting;
  value = λ kept.
      let both = kept_parts c.loop-contract.is_lacking c.add_row.result kept in
      rows_kept c.args.domain.now c.args.contracts.now c.loop-contract.rows.items c.add_row.new.rows.items c.loop-contract.contract-index c.contract-item.result c.loop-contract-test.true
      c.contract-item.is (rw c.contract-contract.ensures at (c.add_row.ensures both.1)) (c.loop-contract.invariant.value both.0);
}

pub returns-then-is_lacking-clause-refused : goal.returns-then-is_lacking-clause-refused
returns-then-is_lacking-clause-refused c =
    inl (refl, sym c.loop-contract.invariant.fitting ∙ all_fitting c.args.domain.now c.args.contracts.now c.loop-contract.contract-index (omega arith))

pub returns-clause-value : goal.returns-clause-value
returns-clause-value c =
    least-made c.args.domain.now c.args.contracts.now c.loop-contract.rows.items c.new.result c.loop-contract.contract-index (omega arith)
    (c.loop-contract.invariant.value c.if-is_lacking.false) c.new.ensures

pub returns-clause-meets : goal.returns-clause-meets
returns-clause-meets c =
    let d = c.args.domain.now in
    let contracts = c.args.contracts.now in
    let i = c.loop-contract.contract-index in
    subst (IsCertificate d contracts)
    (sym (least-made d contracts c.loop-contract.rows.items c.new.result i (omega arith) (c.loop-contract.invariant.value c.if-is_lacking.false) c.new.ensures))
    (IsCertificate-least d contracts (sym c.loop-contract.invariant.fitting ∙ all_fitting d contracts i (omega arith)))

pub returns-clause-least : goal.returns-clause-least
returns-clause-least c other met =
    let d = c.args.domain.now in
    let contracts = c.args.contracts.now in
    subst (λ rows. AreAtMost rows other)
    (sym (least-made d contracts c.loop-contract.rows.items c.new.result c.loop-contract.contract-index (omega arith) (c.loop-contract.invariant.value c.if-is_lacking.false) c.new.ensures))
    (least-below d contracts other met)
