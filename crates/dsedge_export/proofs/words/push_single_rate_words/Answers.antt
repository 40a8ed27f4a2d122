use Rattle.std.proofs.Common.{append_assoc}
use Rattle.dsedge_export.specs.Words.{single_rate_words}
use Rattle.dsedge_export.proofs.words.push_single_rate_words.Goals as goal

pub returns : goal.returns
unfolding single_rate_words
returns c =
    rw c.in_ok-extend_from_slice-4.ensures.items
    (rw c.in_ok-push_member-3.ensures
    (rw c.from-2.ensures
    (rw c.in_ok-extend_from_slice-3.ensures.items
    (rw c.in_ok-push_member-2.ensures
    (rw c.from.ensures
    (rw c.in_ok-extend_from_slice-2.ensures.items
    (rw c.in_ok-push_member.ensures
    (rw c.bytes_a_second.ensures.value
    (rw c.in_ok-extend_from_slice.ensures.items
    (simp append_assoc))))))))))
