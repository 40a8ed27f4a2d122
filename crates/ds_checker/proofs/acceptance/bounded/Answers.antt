use Rattle.std.proofs.Common.{rules, ◌≤◌, arith, ap, false, inl, inr, is_some, length, refl, sym, true, ◌∙◌}
use Rattle.std.proofs.lemmas.Bool.Decides.{nat_tests}
use Rattle.ds_domain_base.specs.Routes.{route_of}
use Rattle.ds_certificate.specs.Sources.{jitters_of, source_of}
use Rattle.ds_checker.specs.Acceptance.{table_of}
use Rattle.ds_checker.specs.BoundTests.{tests_along}
use Rattle.ds_checker.specs.Tests.{first_failed}
use Rattle.ds_checker.proofs.BoundLaws.{misfit-missing, misfit-step, or_else_is}
use Rattle.ds_checker.proofs.CheckLaws.{bounds_ended, bounds_step, over, shape_found}
use Rattle.ds_certificate.proofs.LeastLaws.{kept_parts}
use Rattle.ds_checker.proofs.CopyLaws.{one-mapped}
use Rattle.ds_checker.proofs.acceptance.bounded.Goals as goal

pub returns-in_default-clause-refused : goal.returns-in_default-clause-refused
returns-in_default-clause-refused c =
    let i = c.loop-number.number-counter in
    let contracts = c.as_slice-contracts.result.now in
    let rows = c.bounds-rows.result.now in
    let short : length rows ≤ i = grind (arith, nat_tests, c.in_default.ensures.lookup.0) in
    let missing = misfit-missing c.args.candidate.now.domain contracts rows i c.index-contracts-number.result c.loop-number-test.true c.index-contracts-number.is short in
    inr (shape_found (table_of c.args.candidate.now) contracts rows i (search rules) (search rules) (sym c.loop-number.invariant.shape ∙ missing))

pub returns-in_default-shaped-clause-refused : goal.returns-in_default-shaped-clause-refused
returns-in_default-shaped-clause-refused c =
    let i = c.loop-number.number-counter in
    let contracts = c.as_slice-contracts.result.now in
    let rows = c.bounds-rows.result.now in
    let row = c.in-Some.ensures.lookup in
    let step = misfit-step c.args.candidate.now.domain contracts rows i c.index-contracts-number.result c.in-Some.bounds.now false c.loop-number-test.true
    c.index-contracts-number.is row.3.0 row.1 (sym (ap is_some c.in_default-shaped.is) ∙ (rw (c.hops-hops.ensures, c.contract-contract.ensures) at c.shaped.ensures.some)) in
    inr (shape_found (table_of c.args.candidate.now) contracts rows i (search rules) (search rules) (sym c.loop-number.invariant.shape ∙ step))

pub loop-number-preserved : goal.loop-number-preserved
loop-number-preserved c =
    let d = c.args.candidate.now.domain in
    let i = c.loop-number.number-counter in
    let contracts = c.as_slice-contracts.result.now in
    let rows = c.bounds-rows.result.now in
    let contract = c.index-contracts-number.result in
    let bounds = c.in-Some.bounds.now in
    let row = c.in-Some.ensures.lookup in
    let step = misfit-step d contracts rows i contract bounds true c.loop-number-test.true
    c.index-contracts-number.is row.3.0 row.1 (sym (ap is_some c.in-Some-shaped.is) ∙ (rw (c.hops-hops.ensures, c.contract-contract.ensures) at c.shaped.ensures.some)) in
    let refusal = first_failed (tests_along i (source_of d contract) (jitters_of d contract) c.hops-hops.result.now) in
    record {
      shape = sym step ∙ c.loop-number.invariant.shape;
      bounds = bounds_step d contracts rows i contract bounds c.loop-number.low refusal c.or_else-low.result _ c.loop-number-test.true c.index-contracts-number.is row.3.0 row.1
          (ap (λ hops. first_failed (tests_along i (source_of d contract) (jitters_of d contract) hops)) c.hops-hops.ensures)
          (or_else_is c.loop-number.low refusal c.or_else-low.result c.or_else-low.ensures (λ called. search rules)) c.loop-number.invariant.bounds;
      routes = λ kept.
          let both = kept_parts c.loop-number.is_lacking c.keep.result kept in
          one-mapped (route_of d) c.loop-number.routes.items c.keep.new.routes.items contracts contract c.in-Some-shaped.route i c.loop-number-test.true
          (rw c.contract-contract.ensures at c.in-Some-shaped.ensures.route) c.index-contracts-number.is (c.keep.ensures both.1) (c.loop-number.invariant.routes both.0);
    }

pub returns-then-rows-contracts-clause-refused : goal.returns-then-rows-contracts-clause-refused
returns-then-rows-contracts-clause-refused c =
    let contracts = c.as_slice-contracts.result.now in
    let rows = c.bounds-rows.result.now in
    inr (shape_found (table_of c.args.candidate.now) contracts rows (length contracts) (search rules) (search rules)
    (over c.args.candidate.now.domain contracts rows c.loop-number.number-counter (omega arith) c.if-rows-contracts.true c.loop-number.invariant.shape))

pub returns-in-Some-low-clause-refused : goal.returns-in-Some-low-clause-refused
returns-in-Some-low-clause-refused c =
    inr (bounds_ended (table_of c.args.candidate.now) c.as_slice-contracts.result.now c.bounds-rows.result.now c.loop-number.number-counter c.loop-number.low (search rules) (search rules)
    (omega arith) c.if-rows-contracts.false c.loop-number.invariant.shape c.loop-number.invariant.bounds ∙ c.in-Some-low.is)

pub returns-in-None-clause-refused : goal.returns-in-None-clause-refused
returns-in-None-clause-refused c =
    inl (
      refl,
      bounds_ended (table_of c.args.candidate.now) c.as_slice-contracts.result.now c.bounds-rows.result.now c.loop-number.number-counter c.loop-number.low (search rules) (search rules)
          (omega arith) c.if-rows-contracts.false c.loop-number.invariant.shape c.loop-number.invariant.bounds ∙ c.in-None.is,
    )

pub returns-in-None-2-clause-unrefused : goal.returns-in-None-2-clause-unrefused
returns-in-None-2-clause-unrefused c =
    bounds_ended (table_of c.args.candidate.now) c.as_slice-contracts.result.now c.bounds-rows.result.now c.loop-number.number-counter c.loop-number.low (search rules) (search rules)
    (omega arith) c.if-rows-contracts.false c.loop-number.invariant.shape c.loop-number.invariant.bounds ∙ c.in-None-2.is
