use Rattle.std.proofs.Common.{◌≡◌, length}
use Rattle.std.specs.Vec.Iter.{into_iter_items, into_iter_len}
use Rattle.ds_ledger_base.specs.Replays.{replay}
use Rattle.ds_ledger_base.proofs.replaying.replay.Given as goal

-- what is left is to be asked of the book as it is
abbrev pub invariant-commands : goal.invariant-commands
invariant-commands l =
    (replay l.initial.book (into_iter_items l.initial.command-iterator) ≡ replay l.book (into_iter_items l.command-iterator))
    × (into_iter_len l.command-iterator ≡ length (into_iter_items l.command-iterator))
