use Rattle.std.proofs.Common.{rules, ◌≡◌, ◌++◌, [], ◌∷◌, ap, ap₂, ◌∙◌, subst, arith, length}
use Rattle.std.specs.Iterator.Adapters.{zip_first, zip_second}
use Rattle.std.specs.Slice.Iter.{iter_rest}
use Rattle.std.proofs.lemmas.Slice.Zip.{Zip-more, either_empty_from_Zip}
use Rattle.ds_certificate.specs.Readings.{certificate_in}
use Rattle.ds_certificate.specs.Texts.{ended, heading, lines_for, text_in}
use Rattle.ds_certificate.proofs.TextLaws.{RowsBack, back-ended, back-more, both_ended, certificate_in-text, rows-more, shape-behind, text-ended, text_in-headed}
use Rattle.ds_certificate.proofs.writing.write.Goals as goal

pub loop-contract-init : goal.loop-contract-init
loop-contract-init c =
    let form = c.of-form.result in
    let head : c.push.new.self.items ≡ heading form ++ 10 ∷ [] =
    c.in_ok-push.ensures.items
    ∙ ap (λ text. text ++ 10 ∷ []) (c.in_ok-extend_from_slice.ensures.items ∙ ap (λ text. text ++ c.heading.result.now) c.new-text.ensures.items ∙ c.heading.ensures) in
    let contracts : iter_rest (zip_first c.into_iter-contract-iterator.result) ≡ c.args.contracts.now = search rules in
    let rows : iter_rest (zip_second c.into_iter-contract-iterator.result) ≡ c.args.certificate.now = search rules in
    record {
      lines = ap₂ (λ xs ys. c.push.new.self.items ++ ended (lines_for form xs ys)) contracts rows
          ∙ ap (λ text. text ++ ended (lines_for form c.args.contracts.now c.args.certificate.now)) head ∙ text_in-headed form c.args.contracts.now c.args.certificate.now;
      shape = search rules;
      reads = search rules;
    }

pub loop-contract-preserved : goal.loop-contract-preserved
loop-contract-preserved c =
    let more = Zip-more c.loop-contract.contract-iterator c.next.new.self c.next.result _ c.in-Some.is c.next.ensures.steps in
    let contract = c.in-Some.contract.now in
    let bounds = c.in-Some.bounds.now in
    let shaped = shape-behind _ _ contract _ _ bounds more.0 more.1 c.loop-contract.invariant.shape in
    record {
      lines = rows-more c.of-form.result c.loop-contract.text.items c.push_bounds.new.text.items _ _ contract _ _ bounds _ more.0 more.1 (rw c.contract.ensures at c.in_ok-push_bounds.ensures.lines) c.loop-contract.invariant.lines;
      shape = shaped.1;
      reads = back-more c.of-form.result _ _ _ contract _ _ bounds _ more.0 more.1 shaped.0 (rw c.contract.ensures at c.in_ok-push_bounds.ensures.reads) c.loop-contract.invariant.reads;
    }

pub returns-clause-text : goal.returns-clause-text
returns-clause-text c =
    let none = both_ended _ _ (either_empty_from_Zip c.loop-contract.contract-iterator c.next.new.self c.next.result c.in-None.is c.next.ensures.steps) c.loop-contract.invariant.shape in
    text-ended c.of-form.result c.loop-contract.text.items _ _ _ none c.loop-contract.invariant.lines
    ∙ ap (λ form. text_in form c.args.contracts.now c.args.certificate.now) c.of-form.ensures

pub returns-clause-reads : goal.returns-clause-reads
returns-clause-reads c =
    let contracts = c.args.contracts.now in
    let rows = c.args.certificate.now in
    let none = both_ended _ _ (either_empty_from_Zip c.loop-contract.contract-iterator c.next.new.self c.next.result c.in-None.is c.next.ensures.steps) c.loop-contract.invariant.shape in
    let text = text-ended c.of-form.result c.loop-contract.text.items _ _ _ none c.loop-contract.invariant.lines
    ∙ ap (λ form. text_in form contracts rows) c.of-form.ensures in
    let back = back-ended c.of-form.result contracts _ _ rows none c.loop-contract.invariant.reads in
    ap (certificate_in contracts) text ∙ certificate_in-text contracts rows (subst (λ form. RowsBack form contracts rows) c.of-form.ensures back)

pub loop-contract-smaller : goal.loop-contract-smaller
loop-contract-smaller c =
    let more = Zip-more c.loop-contract.contract-iterator c.next.new.self c.next.result _ c.in-Some.is c.next.ensures.steps in
    omega (arith, ap length more.0, ap length more.1)
