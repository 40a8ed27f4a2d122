use Rattle.std.proofs.Common.{arith, ◌≡◌, ◌⊎◌, ◌<◌, length, Result, Ok, Err, IfErr, IfOk, ap, subst, sym, ◌∙◌}
use Rattle.std.specs.List.{list_all}
use Rattle.ds_certificate.specs.Bounds.{fits}
use Rattle.dsedge_texts.specs.Quotation.{said_in}
use Rattle.dsedge_texts.specs.Quoted.{Quote}
use Rattle.dsedge_texts.specs.declared.quoting.QuoteFault.{QuoteFault}
use Rattle.dsedge_texts.specs.declared.quoting.QuoteFault.TheVariants.{NoMemory}
use Rattle.dsedge_texts.specs.Wording.{place_named}
use Rattle.dsedge_texts.proofs.QuoteLemmas.{all_removed, one_of_all, others-long, place-inside, quote-found}
use Rattle.dsedge_texts.proofs.quoting.quote_named.Goals as goal

pub remove-contract-requires : goal.remove-contract-requires
remove-contract-requires c =
    let inside : c.in-Some.place < length c.args.contracts.items = place-inside c.args.contracts.items c.args.name.now c.in-Some.place (c.in-Some.ensures ∙ ap (λ xs. place_named xs c.args.name.now) c.as_slice.ensures.value) in
    omega (arith, inside)

pub asked_beside-requires-clause-fit : goal.asked_beside-requires-clause-fit
asked_beside-requires-clause-fit c =
    ap (list_all (fits c.args.domain)) c.remove-contract.ensures.items ∙ all_removed (fits c.args.domain) c.args.contracts.items c.in-Some.place c.requires

pub asked_beside-requires-clause-own : goal.asked_beside-requires-clause-own
asked_beside-requires-clause-own c =
    let inside = place-inside c.args.contracts.items c.args.name.now c.in-Some.place (c.in-Some.ensures ∙ ap (λ xs. place_named xs c.args.name.now) c.as_slice.ensures.value) in
    ap (fits c.args.domain) c.remove-contract.ensures.value ∙ one_of_all (fits c.args.domain) c.args.contracts.items c.in-Some.place c.remove-contract.result c.requires inside

pub asked_beside-requires-clause-place : goal.asked_beside-requires-clause-place
asked_beside-requires-clause-place c =
    let inside = place-inside c.args.contracts.items c.args.name.now c.in-Some.place (c.in-Some.ensures ∙ ap (λ xs. place_named xs c.args.name.now) c.as_slice.ensures.value) in
    others-long c.args.contracts.items _ c.in-Some.place inside c.remove-contract.ensures.items

pub returns-in-Some-clause-ok : goal.returns-in-Some-clause-ok
returns-in-Some-clause-ok c =
    let named = c.in-Some.ensures ∙ ap (λ xs. place_named xs c.args.name.now) c.as_slice.ensures.value in
    let e = quote-found c.args.domain c.args.contracts.items _ c.args.name.now c.in-Some.place c.remove-contract.result c.args.asked named c.remove-contract.ensures.items
    c.remove-contract.ensures.value in
    subst (λ (r : Result Quote QuoteFault). IfOk c.asked_beside.result (λ quoted. r ≡ Ok (said_in quoted))) (sym e) c.asked_beside.ensures.ok

pub returns-in-Some-clause-refused : goal.returns-in-Some-clause-refused
returns-in-Some-clause-refused c =
    let named = c.in-Some.ensures ∙ ap (λ xs. place_named xs c.args.name.now) c.as_slice.ensures.value in
    let e = quote-found c.args.domain c.args.contracts.items _ c.args.name.now c.in-Some.place c.remove-contract.result c.args.asked named c.remove-contract.ensures.items
    c.remove-contract.ensures.value in
    subst (λ (r : Result Quote QuoteFault). IfErr c.asked_beside.result (λ fault. (fault ≡ NoMemory) ⊎ (r ≡ Err fault))) (sym e) c.asked_beside.ensures.refused
