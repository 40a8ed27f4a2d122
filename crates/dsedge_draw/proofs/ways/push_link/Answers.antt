use Rattle.std.proofs.Common.{append_assoc}
use Rattle.dsedge_draw.specs.Ways.{link_text}
use Rattle.dsedge_draw.proofs.ways.push_link.Goals as goal

pub returns : goal.returns
unfolding link_text
returns c =
    rw c.in_ok-extend_from_slice.ensures.items
    (rw c.in_ok-push_delay-2.ensures
    (rw c.in_ok-push_delay.ensures
    (rw c.in_ok-push_hop.ensures
    (rw c.in_ok-push_quoted.ensures
    (simp append_assoc)))))
