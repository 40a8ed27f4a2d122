use Rattle.std.proofs.Common.{◌≡◌, length}
use Rattle.std.specs.Vec.Iter.{into_iter_items, into_iter_len}
use Rattle.ds_ledger_base.specs.Replays.{replay}
use Rattle.dsedge_drive.proofs.shop.Shop.replay.Given as goal

-- what is left is to be asked of the book as it is
abbrev pub invariant-commands : goal.invariant-commands
invariant-commands g l =
    (replay l.initial.self (into_iter_items l.initial.command-iterator) ≡ replay l.self (into_iter_items l.command-iterator))
    × (into_iter_len l.command-iterator ≡ length (into_iter_items l.command-iterator))
