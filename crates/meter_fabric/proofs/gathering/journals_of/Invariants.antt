use Rattle.std.proofs.Common.{◌≡◌, ℕ, ◌+◌, ◌≤◌, ◌++◌, List, drop, length, vec_len, vec_capacity, slice_get}
use Rattle.std.specs.Vec.Iter.{into_iter_items}
use Rattle.meter_book.specs.Chapters.{Chapter}
use Rattle.meter_fabric.specs.Closing.{journals_from}
use Rattle.meter_fabric.specs.Gathered.{AreGathered}
use Rattle.meter_fabric.proofs.gathering.journals_of.Given as goal

-- the journals so far, and those of the books that are left
abbrev pub invariant-loop-site : goal.invariant-loop-site
invariant-loop-site l = record {
  value : (chapters : List Chapter) → AreGathered chapters l.fn.books.items l.fn.gathered.items
      → l.journals.items ++ journals_from l.site-iterator.count chapters (into_iter_items l.site-iterator.iter) ≡ journals_from 0 chapters l.fn.books.items;
  items : into_iter_items l.site-iterator.iter ≡ drop l.site-iterator.count l.fn.books.items;
  count : l.site-iterator.count + length (into_iter_items l.site-iterator.iter) ≡ length l.fn.books.items;
  gathered : length l.gathered.items ≡ length l.fn.books.items;
  left : (site : ℕ) → l.site-iterator.count ≤ site → slice_get l.gathered.items site ≡ slice_get l.fn.gathered.items site;
  some : vec_len l.journals ≤ l.site-iterator.count;
  room : vec_capacity l.fn.journals ≤ vec_capacity l.journals;
}
