use Rattle.std.proofs.Common.{◌≡◌, ◌+◌}
use Rattle.std.specs.Iterator.Adapters.{enumerate_count, enumerate_source, zip_first, zip_second}
use Rattle.std.specs.Slice.Iter.{iter_rest}
use Rattle.ds_domain_base.specs.Routes.{jitters_in}
use Rattle.ds_checker.specs.BoundTests.{hop_tests}
use Rattle.ds_checker.specs.Tests.{first_failed}
use Rattle.ds_checker.proofs.bounds.hops_refusal.Given as goal

-- what is left is as the whole
abbrev pub invariant-loop-index : goal.invariant-loop-index
invariant-loop-index l =
    let pairs = enumerate_source l.index-iterator in
    first_failed (hop_tests l.number (enumerate_count l.index-iterator + 1) l.source (jitters_in (iter_rest (zip_first pairs))) l.before (iter_rest (zip_second pairs)))
    ≡ first_failed (hop_tests l.number 1 l.source (jitters_in l.legs) l.fn.first l.behind)
