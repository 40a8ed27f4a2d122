use Rattle.std.proofs.Common.{append_assoc}
use Rattle.dsedge_draw.specs.Ways.{source_text}
use Rattle.dsedge_draw.proofs.ways.push_source.Goals as goal

pub returns : goal.returns
unfolding source_text
returns c =
    rw c.in_ok-extend_from_slice-6.ensures.items
    (rw c.in_ok-push_label.ensures
    (rw c.in_ok-extend_from_slice-5.ensures.items
    (rw c.in_ok-extend_from_slice-4.ensures.items
    (rw c.in_ok-extend_from_slice-3.ensures.items
    (rw c.in_ok-extend_from_slice-2.ensures.items
    (rw c.in_ok-extend_from_slice.ensures.items
    (rw c.in_ok-push_source_name.ensures
    (simp append_assoc))))))))
