use Rattle.std.proofs.Common.{◌≡◌, ◌++◌}
use Rattle.std.specs.Iterator.Adapters.{zip_first, zip_second}
use Rattle.std.specs.Slice.Iter.{iter_rest}
use Rattle.ds_broker.specs.Entries.{told_of}
use Rattle.ds_broker.proofs.book.entries.Given as goal

-- what is told so far, and what is to be told of what is left
abbrev pub invariant-loop-id : goal.invariant-loop-id
invariant-loop-id l =
    l.entries.items ++ told_of (iter_rest (zip_first l.id-iterator)) (iter_rest (zip_second l.id-iterator)) ≡ told_of l.ids l.contracts
