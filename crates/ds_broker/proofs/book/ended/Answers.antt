use Rattle.std.proofs.Common.{arith, refl, ◌∙◌}
use Rattle.std.proofs.lemmas.Result.{Ok-from_Ok_iff, OkIff-at_ok}
use Rattle.ds_broker.proofs.HoldingLaws.{in_order-ended, in_order-some}
use Rattle.ds_broker.proofs.book.ended.Goals as goal

pub unwrap-requires : goal.unwrap-requires
unwrap-requires c =
    let end = in_order-ended _ c.args.moment c.until.result c.until.ensures.order (omega (arith, c.requires)) in
    let order = in_order-some c.since.result c.end_by-until.result (omega (arith, c.since.ensures, c.end_by-until.ensures, end)) in
    let ok = Ok-from_Ok_iff c.new.result _ _ c.new.ensures order in
    rw ok refl

pub returns : goal.returns
returns c =
    (OkIff-at_ok c.new.result _ _ c.unwrap.result c.new.ensures c.unwrap.ensures).1 ∙ rw (c.since.ensures, c.end_by-until.ensures, c.until.ensures.value) refl
