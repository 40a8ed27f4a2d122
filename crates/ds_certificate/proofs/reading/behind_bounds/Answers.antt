use Rattle.std.proofs.Common.{◌+◌, [], ℕ, ap, sym, ◌∙◌, arith}
use Rattle.line_text.specs.Lines.{lines_of}
use Rattle.ds_certificate.specs.Readings.{bounds_in, left_of}
use Rattle.ds_certificate.proofs.ReadingLaws.{bounds_in-bad, bounds_in-ended, bounds_in-missing, left-bad, left-ended, left-on}
use Rattle.ds_certificate.proofs.reading.behind_bounds.Goals as goal

pub returns-in_default-clause-refused : goal.returns-in_default-clause-refused
returns-in_default-clause-refused c =
    let name = c.args.contract.now.name in
    let whole = ap (λ (hops : ℕ). bounds_in c.args.form name 0 (hops + 1) (lines_of c.args.text.now)) c.hops-count.ensures.value in
    sym whole ∙ left-bad _ _ _
    (bounds_in-missing c.args.form [] name c.loop-hop.hop (c.hops-count.result + 1) (lines_of c.loop-hop.rest.now) c.loop-hop-test.true c.in_default.ensures) c.loop-hop.invariant

pub returns-in-Err-clause-refused : goal.returns-in-Err-clause-refused
returns-in-Err-clause-refused c =
    let name = c.args.contract.now.name in
    let whole = ap (λ (hops : ℕ). bounds_in c.args.form name 0 (hops + 1) (lines_of c.args.text.now)) c.hops-count.ensures.value in
    sym whole ∙ left-bad _ _ _
    (bounds_in-bad c.args.form [] name c.loop-hop.hop (c.hops-count.result + 1) (lines_of c.loop-hop.rest.now) c.in-Some.line.now (lines_of c.in-Some.later.now)
    c.in-Err.fault c.loop-hop-test.true c.in-Some.ensures (sym c.bound_in.ensures ∙ c.in-Err.is)) c.loop-hop.invariant

pub loop-hop-preserved : goal.loop-hop-preserved
loop-hop-preserved c =
    left-on c.args.form c.args.contract.now.name c.loop-hop.hop (c.hops-count.result + 1) (lines_of c.loop-hop.rest.now) c.in-Some.line.now (lines_of c.in-Some.later.now) _ _
    c.loop-hop-test.true c.in-Some.ensures (sym c.bound_in.ensures ∙ c.in-Ok.is) c.loop-hop.invariant

pub returns-clause-behind : goal.returns-clause-behind
returns-clause-behind c =
    let name = c.args.contract.now.name in
    let whole = ap (λ (hops : ℕ). left_of (bounds_in c.args.form name 0 (hops + 1) (lines_of c.args.text.now))) c.hops-count.ensures.value in
    sym whole ∙ left-ended _ _ _ (bounds_in-ended c.args.form [] name c.loop-hop.hop (c.hops-count.result + 1) (lines_of c.loop-hop.rest.now) (omega arith)) c.loop-hop.invariant
