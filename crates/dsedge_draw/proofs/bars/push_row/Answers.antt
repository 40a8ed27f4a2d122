use Rattle.std.proofs.Common.{append_assoc}
use Rattle.dsedge_draw.specs.Bars.{row_text}
use Rattle.dsedge_draw.proofs.bars.push_row.Goals as goal

pub returns : goal.returns
unfolding row_text
returns c =
    rw c.in_ok-extend_from_slice-9.ensures.items
    (rw c.in_ok-extend_from_slice-8.ensures.items
    (rw c.in_ok-extend_from_slice-7.ensures.items
    (rw c.as_bytes-2.ensures.value
    (rw c.format-2.ensures.text
    (rw c.in_ok-extend_from_slice-6.ensures.items
    (rw c.in_ok-extend_from_slice-5.ensures.items
    (rw c.as_bytes.ensures.value
    (rw c.format.ensures.text
    (rw c.in_ok-extend_from_slice-4.ensures.items
    (rw c.in_ok-push_bar.ensures
    (rw c.in_ok-extend_from_slice-3.ensures.items
    (rw c.in_ok-extend_from_slice-2.ensures.items
    (rw c.in_ok-extend_from_slice.ensures.items
    (simp append_assoc))))))))))))))
