use Rattle.std.proofs.Common.{append_assoc}
use Rattle.dsedge_draw.specs.Bars.{meter_text}
use Rattle.dsedge_draw.proofs.bars.push_meter.Goals as goal

pub returns : goal.returns
unfolding meter_text
returns c =
    rw c.in_ok-extend_from_slice-5.ensures.items
    (rw c.in_ok-push_rows.ensures
    (rw c.in_ok-extend_from_slice-4.ensures.items
    (rw c.in_ok-extend_from_slice-3.ensures.items
    (rw c.bytes.ensures.value
    (rw c.in_ok-extend_from_slice-2.ensures.items
    (rw c.in_ok-extend_from_slice.ensures.items
    (rw c.in_ok-push_quoted.ensures
    (simp append_assoc))))))))
