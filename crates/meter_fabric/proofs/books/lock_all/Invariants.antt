use Rattle.std.proofs.Common.{◌≡◌, ◌+◌, ◌≤◌, vec_len, vec_capacity, reverse, sum_by}
use Rattle.meter_fabric.specs.Fabrics.{StandFrom, places_left}
use Rattle.meter_fabric.proofs.books.lock_all.Given as goal

-- the books that are left, the first of them last, and their tickets
abbrev pub invariant-loop-book : goal.invariant-loop-book
invariant-loop-book g l = record {
  count : vec_len l.locks + vec_len l.books ≡ vec_len l.initial.books;
  room : vec_len l.initial.books ≤ vec_capacity l.locks;
  space : vec_len l.initial.books ≤ vec_capacity l.books;
  stand : StandFrom g.L.FabricLedger.fabric (vec_len l.locks) (reverse l.books.items);
  parts : l.share.parts ≡ 1 + vec_len l.books;
  left : l.share.amount ≡ sum_by places_left l.books.items;
}

abbrev pub decreases-loop-book : goal.decreases-loop-book
decreases-loop-book g l = vec_len l.books
