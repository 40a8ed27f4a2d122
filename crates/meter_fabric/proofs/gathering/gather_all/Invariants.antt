use Rattle.std.proofs.Common.{◌≡◌, ℕ, vec_len, Option, Some, slice_get}
use Rattle.meter_book.specs.Gathering.{of_site}
use Rattle.meter_book.specs.Replay.{Book, Journal}
use Rattle.meter_fabric.specs.Gathered.{IsGathered}
use Rattle.meter_fabric.proofs.gathering.gather_all.Given as goal

-- those of the sites so far
abbrev pub invariant-loop-site : goal.invariant-loop-site
invariant-loop-site l = record {
  count : vec_len l.gathered ≡ l.site;
  each : (site : ℕ) (b : Option Book) (j : Option Journal) → slice_get l.books site ≡ Some b → slice_get l.gathered.items site ≡ Some j → IsGathered (of_site site l.chapters) site b j;
}
