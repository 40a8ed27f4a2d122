use Rattle.std.proofs.Common.{refl, subst, sym, ◌∙◌}
use Rattle.std.proofs.lemmas.Result.{OkIff-at_ok}
use Rattle.ds_checker.specs.Acceptance.{IsAcceptable}
use Rattle.ds_broker.proofs.KeptLaws.{kept-opened}
use Rattle.ds_broker.proofs.book.Book.of.Goals as goal

pub invariant_of-result : goal.invariant_of-result
invariant_of-result c =
    kept-opened _ c.args.domain.now (c.in_ok-new.ensures ∙ c.in-Ok-check.ensures.accepted ∙ rw (c.new-3.ensures, c.new-2.ensures.items, c.new.ensures.items, c.in-Ok.ensures.copied) refl)
    (subst IsAcceptable (sym c.in_ok-new.ensures) c.in-Ok-check.ensures.acceptable)
    c.new-5.ensures.items c.new-6.ensures.items c.new-7.ensures.empty refl
    (OkIff-at_ok c.new-8.result _ _ c.unwrap.result c.new-8.ensures c.unwrap.ensures).1 c.new-9.ensures.items
