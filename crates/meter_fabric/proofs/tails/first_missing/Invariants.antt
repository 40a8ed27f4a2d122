use Rattle.std.proofs.Common.{ℕ, ◌<◌}
use Rattle.meter_fabric.specs.Closing.{IsThere}
use Rattle.meter_fabric.specs.Fabrics.{book_at}
use Rattle.meter_fabric.proofs.tails.first_missing.Given as goal

-- all is there at the sites so far
abbrev pub invariant-loop-site : goal.invariant-loop-site
invariant-loop-site l = (s : ℕ) → s < l.site → IsThere l.chapters s (book_at l.books s)
