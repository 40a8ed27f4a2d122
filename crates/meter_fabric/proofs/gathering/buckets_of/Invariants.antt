use Rattle.std.proofs.Common.{◌≡◌, ℕ, ◌<◌, [], get_or, map, take, vec_len}
use Rattle.meter_book.specs.Gathering.{of_site}
use Rattle.meter_fabric.proofs.gathering.buckets_of.Given as goal

abbrev pub invariant-loop-site : goal.invariant-loop-site
invariant-loop-site l = record {
  count : vec_len l.buckets ≡ l._site;
  none : (site : ℕ) → (bucket : _) → site < l._site → (get_or l.buckets.items site bucket).items ≡ [];
}

-- the chapters of each site so far
abbrev pub invariant-loop-index : goal.invariant-loop-index
invariant-loop-index l = record {
  count : vec_len l.buckets ≡ l.sites;
  own : (site : ℕ) → (bucket : _) → site < l.sites → map (λ c. c.now) (get_or l.buckets.items site bucket).items ≡ of_site site (take l.index l.chapters);
}
