use Rattle.std.proofs.Common.{◌≡◌, length, sym, ap, ◌∙◌}
use Rattle.ds_desk.proofs.Adding.{adds_moves}
use Rattle.ds_desk.proofs.log.Log.add.Goals as goal

pub compare_exchange-found-requires : goal.compare_exchange-found-requires
compare_exchange-found-requires g c =
    let head = c.args.self.now.head_is in
    let offer = c.plain-offer.ensures in
    let pen = c.no_pen-pen.ensures in
    let seen : c.again-seen.result.book ≡ c.args.self.now.head.book = ap (λ s. s.book) c.again-seen.ensures ∙ c.requires.log ∙ sym (ap (λ w. w.book) head) in
    let whole : length c.again-seen.result.log ≡ c.args.end.now.acts = ap (λ s. length s.log) c.again-seen.ensures ∙ sym c.args.end.now.whole in (
      ap (λ w. w.tracked) head,
      seen,
      pen.0 ∙ seen,
      offer.0,
      rw (ap (λ w. w.key) head, pen.1, offer.1, offer.3 ∙ c.requires.plain) (adds_moves c.again-seen.result.log _ c.args.end.now.acts whole),
    )
