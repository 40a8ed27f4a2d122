use Rattle.std.proofs.Common.{◌≡◌, ◌^◌, map}
use Rattle.std.specs.List.{range_with_len}
use Rattle.ds_runs.specs.Steps.{opened_at}
use Rattle.ds_runs.proofs.opening.opened_books.Given as goal

-- the books of the sites up to here
abbrev pub invariant-loop-site : goal.invariant-loop-site
invariant-loop-site l = l.books.items ≡ map (opened_at (2 ^ 20) l.accepted) (range_with_len 0 l.site)
