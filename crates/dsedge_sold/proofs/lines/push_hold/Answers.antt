use Rattle.std.proofs.Common.{◌++◌, ◌∷◌, [], codes, ap, append_assoc, ◌∙◌}
use Rattle.dsedge_texts.specs.Wording.{figure}
use Rattle.dsedge_sold.proofs.lines.push_hold.Goals as goal

pub returns : goal.returns
returns c =
    let text = c.args.text.now.items in
    let n = c.args.nanoseconds in
    c.in_ok-push.ensures.items
    ∙ ap (λ t. t ++ 10 ∷ []) (c.in_ok-push_wide_figure.ensures ∙ ap (λ t. t ++ figure n) c.in_ok-extend_from_slice.ensures.items)
    ∙ append_assoc (text ++ codes "refused 9 HoldLeft") (figure n) (10 ∷ [])
    ∙ append_assoc text (codes "refused 9 HoldLeft") (figure n ++ 10 ∷ [])
