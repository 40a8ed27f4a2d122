use Rattle.std.proofs.Common.{true, false, eqb, length, suc, ap, sym, ◌≡◌, ◌∙◌, arith}
use Rattle.std.proofs.lemmas.Slice.Zip.{Zip-more, either_empty_from_Zip}
use Rattle.ds_certificate.proofs.TextLaws.{shape-ended, shape-more, shape-other}
use Rattle.ds_certificate.proofs.writing.is_shaped.Goals as goal

pub returns-then-not-is_long : goal.returns-then-not-is_long
returns-then-not-is_long c =
    let more = Zip-more c.loop-contract.contract-iterator c.next.new.self c.next.result _ c.in-Some.is c.next.ensures.steps in
    let short : eqb (length c.in-Some.bounds.now) (suc (length c.in-Some.contract.now.path)) ≡ false = sym (rw c.contract.ensures at c.is_long.ensures) ∙ c.if-not-is_long.true in
    sym (shape-other _ _ c.in-Some.contract.now _ _ c.in-Some.bounds.now more.0 more.1 short) ∙ c.loop-contract.invariant.shape

pub loop-contract-preserved : goal.loop-contract-preserved
loop-contract-preserved c =
    let more = Zip-more c.loop-contract.contract-iterator c.next.new.self c.next.result _ c.in-Some.is c.next.ensures.steps in
    let long : eqb (length c.in-Some.bounds.now) (suc (length c.in-Some.contract.now.path)) ≡ true = sym (rw c.contract.ensures at c.is_long.ensures) ∙ c.if-not-is_long.false in
    record {
      shape = sym (shape-more _ _ c.in-Some.contract.now _ _ c.in-Some.bounds.now more.0 more.1 long) ∙ c.loop-contract.invariant.shape;
      lengths = omega (arith, ap length more.0, ap length more.1, c.loop-contract.invariant.lengths);
    }

pub returns : goal.returns
returns c =
    shape-ended _ _ (length c.args.contracts.now) (length c.args.rows.now) (either_empty_from_Zip c.loop-contract.contract-iterator c.next.new.self c.next.result c.in-None.is c.next.ensures.steps)
    c.loop-contract.invariant.lengths ∙ c.loop-contract.invariant.shape
