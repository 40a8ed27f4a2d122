use Rattle.std.proofs.Common.{append_assoc}
use Rattle.dsedge_export.specs.Words.{separate_rates_words}
use Rattle.dsedge_export.proofs.words.push_separate_rates_words.Goals as goal

pub returns : goal.returns
unfolding separate_rates_words
returns c =
    rw c.in_ok-push_two_bursts.ensures
    (rw c.in_ok-push_two_rates.ensures
    (rw c.in_ok-extend_from_slice.ensures.items
    (simp append_assoc)))
