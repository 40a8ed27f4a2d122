use Rattle.std.proofs.Common.{◌++◌, ap, ◌∙◌, arith, length}
use Rattle.std.proofs.lemmas.Slice.Zip.{Zip-more, either_empty_from_Zip}
use Rattle.dsedge_json.specs.Certificates.{bounds_from, tokens_of}
use Rattle.dsedge_json.proofs.CertificateLaws.{rows-ended, rows-more}
use Rattle.dsedge_json.proofs.certificate.push_rows.Goals as goal

pub loop-contract-preserved : goal.loop-contract-preserved
loop-contract-preserved c =
    let more = Zip-more c.loop-contract.contract-iterator c.next.new.self c.next.result _ c.in-Some.is c.next.ensures.steps in
    let contract = c.in-Some.contract.now in
    let bounds = c.in-Some.bounds.now in
    record {
      tokens = rows-more c.loop-contract.out.tokens c.push_bounds.new.out.tokens _ _ contract _ _ bounds _ more.0 more.1
          (c.in_ok-push_bounds.ensures.tokens ∙ ap (λ name. c.loop-contract.out.tokens ++ tokens_of (bounds_from name 0 bounds)) (rw c.contract.ensures at c.name_text.ensures))
          c.loop-contract.invariant.tokens;
      before = c.in_ok-push_bounds.ensures.before ∙ c.loop-contract.invariant.before;
    }

pub returns : goal.returns
returns c =
    record {
      tokens = rows-ended c.loop-contract.out.tokens _ _ _ (either_empty_from_Zip c.loop-contract.contract-iterator c.next.new.self c.next.result c.in-None.is c.next.ensures.steps) c.loop-contract.invariant.tokens;
      before = c.loop-contract.invariant.before;
    }

pub loop-contract-smaller : goal.loop-contract-smaller
loop-contract-smaller c =
    let more = Zip-more c.loop-contract.contract-iterator c.next.new.self c.next.result _ c.in-Some.is c.next.ensures.steps in
    omega (arith, ap length more.0, ap length more.1)
