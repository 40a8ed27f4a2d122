use Rattle.std.proofs.Common.{◌∷◌, ◌++◌, [], append-nil, append_assoc, sym, ap, ◌∙◌}
use Rattle.std.specs.Iterator.Adapters.{zip_first, zip_second}
use Rattle.std.specs.Slice.Iter.{iter_rest}
use Rattle.std.proofs.lemmas.Slice.Zip.{Zip-more, either_empty_from_Zip}
use Rattle.ds_broker.specs.Entries.{told_of}
use Rattle.ds_broker.proofs.HoldingLaws.{told-ended, told-next}
use Rattle.ds_broker.proofs.book.entries.Goals as goal

pub loop-id-preserved : goal.loop-id-preserved
loop-id-preserved c =
    let more = Zip-more c.loop-id.id-iterator c.next.new.self c.next.result _ c.in-Some.is c.next.ensures.steps in
    let told = c.loop-id.entries.items in
    let rest = told_of (iter_rest (zip_first c.next.new.self)) (iter_rest (zip_second c.next.new.self)) in
    ap (λ xs. xs ++ rest) c.in_ok-push.ensures.items ∙ append_assoc told (c.entry_of-entry.result ∷ []) rest ∙ ap (λ x. told ++ x ∷ rest) c.entry_of-entry.ensures
    ∙ ap (λ xs. told ++ xs) (sym (told-next _ _ c.in-Some.id.now _ _ c.in-Some.contract.now more.0 more.1)) ∙ c.loop-id.invariant

pub returns : goal.returns
returns c =
    let ended = either_empty_from_Zip c.loop-id.id-iterator c.next.new.self c.next.result c.in-None.is c.next.ensures.steps in
    sym (append-nil c.loop-id.entries.items) ∙ ap (λ xs. c.loop-id.entries.items ++ xs) (sym (told-ended _ _ ended)) ∙ c.loop-id.invariant
