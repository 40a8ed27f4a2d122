use Rattle.std.proofs.Common.{append_assoc}
use Rattle.dsedge_draw.proofs.drawing.push_caption.Goals as goal

pub returns : goal.returns
returns c =
    rw c.in-Some.is
    (rw c.in_ok-extend_from_slice-4.ensures.items
    (rw c.in_ok-extend_from_slice-3.ensures.items
    (rw c.bytes.ensures
    (rw c.new.ensures
    (rw c.in_ok-extend_from_slice-2.ensures.items
    (rw c.in_ok-extend_from_slice.ensures.items
    (rw c.as_bytes.ensures.value
    (simp append_assoc))))))))
