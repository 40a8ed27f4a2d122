use Rattle.std.proofs.Common.{◌≡◌, ◌+◌, ◌^◌, ◌++◌, ◌∷◌, [], ap, map, sym, ◌∙◌, arith}
use Rattle.std.specs.List.{range_with_len}
use Rattle.std.proofs.lemmas.List.FromFn.{map-range_with_len_more}
use Rattle.ds_runs.specs.Steps.{opened_at}
use Rattle.ds_runs.proofs.opening.opened_books.Goals as goal

pub loop-site-preserved : goal.loop-site-preserved
loop-site-preserved c =
    let next : 0 + c.loop-site.site ≡ c.loop-site.site = omega arith in
    let pushed = c.in_ok-push.ensures.items ∙ ap (λ books. books ++ c.opened_book.result ∷ []) c.loop-site.invariant in
    pushed ∙ ap (λ book. map (opened_at (2 ^ 20) c.args.accepted.now) (range_with_len 0 c.loop-site.site) ++ book ∷ []) c.opened_book.ensures ∙ sym (map-range_with_len_more (opened_at (2 ^ 20) c.args.accepted.now) 0 c.loop-site.site c.loop-site.site next)
