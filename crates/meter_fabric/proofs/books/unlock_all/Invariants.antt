use Rattle.std.proofs.Common.{◌≡◌, ◌+◌, ◌*◌, ◌≤◌, vec_len, vec_capacity, reverse, sum_by}
use Rattle.meter_book.specs.Replay.{most_places}
use Rattle.meter_fabric.specs.Fabrics.{StandFrom, places_left, places_of}
use Rattle.meter_fabric.proofs.books.unlock_all.Given as goal

-- the books so far, the last of them first, and their tickets
abbrev pub invariant-loop-lock : goal.invariant-loop-lock
invariant-loop-lock g l = record {
  count : vec_len l.locks + vec_len l.books ≡ vec_len l.initial.locks;
  room : vec_capacity l.initial.locks ≤ vec_capacity l.locks;
  space : vec_len l.initial.locks ≤ vec_capacity l.books;
  stand : StandFrom g.L.FabricLedger.fabric (vec_len l.locks) (reverse l.books.items);
  parts : l.share.parts ≡ 1 + vec_len l.books;
  left : l.share.amount ≡ sum_by places_left l.books.items;
  given : l.share.amount + sum_by places_of l.books.items ≡ vec_len l.books * most_places;
}

abbrev pub decreases-loop-lock : goal.decreases-loop-lock
decreases-loop-lock g l = vec_len l.locks
