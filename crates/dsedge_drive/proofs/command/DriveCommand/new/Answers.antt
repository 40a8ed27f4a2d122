use Rattle.std.proofs.Common.{◌≡◌, ◌∙◌, [], length, ap, sym, subst}
use Rattle.ds_broker.specs.Books.{Book}
use Rattle.dsedge_drive.specs.Kept.{IsKept}
use Rattle.dsedge_drive.proofs.KeepLaws.{all-kept, fold-kept, kept-first}
use Rattle.dsedge_drive.proofs.command.DriveCommand.new.Goals as goal

pub invariant_of-result : goal.invariant_of-result
invariant_of-result g c =
    let keeper = c.new-keeper.result in
    let book = c.replay.new.self in
    let long : keeper.kept ≡ length book.history =
    ap (λ k. k.kept) c.new-keeper.ensures ∙ ap length (c.history.ensures.commands ∙ ap (λ (b : Book). b.history) c.book.ensures) in
    let same : keeper.ledger ≡ c.args.ledger = ap (λ k. k.ledger) c.new-keeper.ensures in
    let none : c.in-Ok-open.shop.history ≡ [] = ap (λ (b : Book). b.history) (c.in-Ok-open.ensures ∙ c.requires.opening) in
    let whole = c.in_default-replay.ensures.whole in
    let all = all-kept c.in-Ok-open.shop book c.args.kept.items none whole in (
      subst (λ l. IsKept g.L.Ledger l keeper.kept book.history) (sym same)
          (kept-first g.L.Ledger c.args.ledger keeper.kept book.history c.args.kept.items all long c.requires.kept c.requires.lasting),
      fold-kept c.in-Ok-open.shop book c.args.kept.items none whole,
    )
