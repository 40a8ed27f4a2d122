use Rattle.std.proofs.Common.{◌≡◌, ◌+◌, ◌++◌, length}
use Rattle.std.specs.Vec.Iter.{into_iter_items}
use Rattle.ds_runs.specs.Conducting.{AreWhole, journals_from}
use Rattle.ds_runs.proofs.closing.journals_of.Given as goal

-- the journals so far, and those of the books that are left, of which nothing was cut off
abbrev pub invariant-loop-site : goal.invariant-loop-site
invariant-loop-site l = record {
  value : l.journals.items ++ journals_from l.site-iterator.count (into_iter_items l.site-iterator.iter) ≡ journals_from 0 l.fn.books.items;
  whole : AreWhole (into_iter_items l.site-iterator.iter);
  count : l.site-iterator.count + length (into_iter_items l.site-iterator.iter) ≡ length l.fn.books.items;
}
