use Rattle.std.proofs.Common.{append_assoc}
use Rattle.dsedge_draw.specs.Bars.{bar_text}
use Rattle.dsedge_draw.proofs.bars.push_bar.Goals as goal

pub returns : goal.returns
unfolding bar_text
returns c =
    rw c.in_ok-extend_from_slice-2.ensures.items
    (rw c.in_ok-push_part-2.ensures
    (rw c.saturating_sub.ensures
    (rw c.in_ok-push_part.ensures
    (rw c.bar_colour.ensures
    (rw c.full_of-full.ensures
    (rw c.in_ok-extend_from_slice.ensures.items
    (simp append_assoc)))))))
