use Rattle.std.proofs.Common.{◌+◌, ℕ, ap, sym, ◌∙◌}
use Rattle.line_text.specs.Lines.{lines_of}
use Rattle.ds_certificate.specs.Places.{bounds_said}
use Rattle.ds_certificate.proofs.PlaceLaws.{all_done, bounds_said-bad, bounds_said-ended, bounds_said-line, bounds_said-missing, drop-line, none_left, one_more}
use Rattle.ds_certificate.proofs.place.bounds_said.Goals as goal

pub returns-in_default-clause-lines : goal.returns-in_default-clause-lines
returns-in_default-clause-lines c =
    let name = c.args.contract.now.name in
    let whole = ap (λ (hops : ℕ). bounds_said c.args.form name 0 (hops + 1) (lines_of c.args.text.now)) c.hops-count.ensures.value in
    none_left _ _ _ _ c.loop-hop.invariant.0
    (bounds_said-missing c.args.form name c.loop-hop.hop (c.hops-count.result + 1) (lines_of c.loop-hop.rest.now) c.loop-hop-test.true c.in_default.ensures) whole

pub returns-in-Err-clause-lines : goal.returns-in-Err-clause-lines
returns-in-Err-clause-lines c =
    let name = c.args.contract.now.name in
    let whole = ap (λ (hops : ℕ). bounds_said c.args.form name 0 (hops + 1) (lines_of c.args.text.now)) c.hops-count.ensures.value in
    none_left _ _ _ _ c.loop-hop.invariant.0
    (bounds_said-bad c.args.form name c.loop-hop.hop (c.hops-count.result + 1) (lines_of c.loop-hop.rest.now) c.in-Some.line.now (lines_of c.in-Some.later.now) _
    c.loop-hop-test.true c.in-Some.ensures (sym c.bound_in.ensures ∙ c.in-Err.is)) whole

pub loop-hop-preserved : goal.loop-hop-preserved
loop-hop-preserved c = (
  one_more _ _ _ _ c.loop-hop.invariant.0
      (bounds_said-line c.args.form c.args.contract.now.name c.loop-hop.hop (c.hops-count.result + 1) (lines_of c.loop-hop.rest.now) c.in-Some.line.now (lines_of c.in-Some.later.now) _
      c.loop-hop-test.true c.in-Some.ensures (sym c.bound_in.ensures ∙ c.in-Ok.is)),
  sym (drop-line c.loop-hop.hop (lines_of c.args.text.now) c.in-Some.line.now (lines_of c.in-Some.later.now) (sym c.loop-hop.invariant.1 ∙ c.in-Some.ensures)),
)

pub returns-clause-lines : goal.returns-clause-lines
returns-clause-lines c =
    let name = c.args.contract.now.name in
    let whole = ap (λ (hops : ℕ). bounds_said c.args.form name 0 (hops + 1) (lines_of c.args.text.now)) c.hops-count.ensures.value in
    all_done _ _ _ _ _ c.loop-hop.invariant.0
    (bounds_said-ended c.args.form name c.loop-hop.hop (c.hops-count.result + 1) (lines_of c.loop-hop.rest.now) c.loop-hop-test.false) whole c.loop-hop-test.false c.loop-hop.auto.hop-end
