use Rattle.std.proofs.Common.{◌+◌, ℕ, Ok, inr, ap, sym, ◌∙◌, arith}
use Rattle.line_text.specs.Lines.{lines_of}
use Rattle.ds_certificate.specs.Readings.{bounds_in}
use Rattle.ds_certificate.proofs.ReadingLaws.{bounds_in-bad, bounds_in-ended, bounds_in-line, bounds_in-missing}
use Rattle.ds_certificate.proofs.reading.bounds_in.Goals as goal

pub returns-in_default-clause-refused : goal.returns-in_default-clause-refused
returns-in_default-clause-refused c =
    let name = c.args.contract.now.name in
    let whole = ap (λ (hops : ℕ). bounds_in c.args.form name 0 (hops + 1) (lines_of c.args.text.now)) c.hops-count.ensures.value in
    let missing = bounds_in-missing c.args.form c.loop-hop.hops.items name c.loop-hop.hop (c.hops-count.result + 1) (lines_of c.loop-hop.rest.now) c.loop-hop-test.true c.in_default.ensures in
    inr (sym whole ∙ sym c.loop-hop.invariant ∙ missing)

pub returns-in-Err-clause-refused : goal.returns-in-Err-clause-refused
returns-in-Err-clause-refused c =
    let name = c.args.contract.now.name in
    let whole = ap (λ (hops : ℕ). bounds_in c.args.form name 0 (hops + 1) (lines_of c.args.text.now)) c.hops-count.ensures.value in
    let bad = bounds_in-bad c.args.form c.loop-hop.hops.items name c.loop-hop.hop (c.hops-count.result + 1) (lines_of c.loop-hop.rest.now) c.in-Some.line.now (lines_of c.in-Some.later.now)
    c.in-Err.fault c.loop-hop-test.true c.in-Some.ensures (sym c.bound_in.ensures ∙ c.in-Err.is) in
    inr (sym whole ∙ sym c.loop-hop.invariant ∙ bad)

pub loop-hop-preserved : goal.loop-hop-preserved
loop-hop-preserved c =
    sym (bounds_in-line c.args.form c.loop-hop.hops.items c.push.new.self.items c.args.contract.now.name c.loop-hop.hop (c.hops-count.result + 1) (lines_of c.loop-hop.rest.now)
    c.in-Some.line.now (lines_of c.in-Some.later.now) c.in-Ok.bound c.loop-hop-test.true c.in-Some.ensures (sym c.bound_in.ensures ∙ c.in-Ok.is) c.in_ok-push-in-Ok.ensures.items)
    ∙ c.loop-hop.invariant

pub returns-clause-bounds : goal.returns-clause-bounds
returns-clause-bounds c =
    let name = c.args.contract.now.name in
    let whole = ap (λ (hops : ℕ). bounds_in c.args.form name 0 (hops + 1) (lines_of c.args.text.now)) c.hops-count.ensures.value in
    let ended = bounds_in-ended c.args.form c.loop-hop.hops.items name c.loop-hop.hop (c.hops-count.result + 1) (lines_of c.loop-hop.rest.now) (omega arith) in
    sym whole ∙ sym c.loop-hop.invariant ∙ ended ∙ ap (λ bounds. Ok (bounds, lines_of c.loop-hop.rest.now)) (sym c.in_ok-new.ensures.made)

pub loop-hop-smaller : goal.loop-hop-smaller
loop-hop-smaller c = omega (arith, c.loop-hop-test.true)
