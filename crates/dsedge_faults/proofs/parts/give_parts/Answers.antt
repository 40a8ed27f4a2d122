use Rattle.std.proofs.lemmas.Result.{err_from_is_err_and}
use Rattle.dsedge_faults.proofs.FrontLemmas.{part_refused}
use Rattle.dsedge_faults.proofs.parts.give_parts.Goals as goal

pub returns-in_err-give_all-clause-bytes : goal.returns-in_err-give_all-clause-bytes
returns-in_err-give_all-clause-bytes g c told =
    let p = err_from_is_err_and c.from_residual.result c.from_residual.ensures.1 in
    rw p.1 (part_refused (λ part. part.now) c.args.parts.now c.loop-part.part-index _ c.as_bytes.result.now (g.O.Outlet.held c.args.outlet.now)
    (g.O.Outlet.held c.loop-part.outlet) (g.O.Outlet.held c.give_all.new.outlet) c.loop-part-test.true c.as_bytes.ensures.value
    (c.loop-part.invariant.bytes told) (c.in_err-give_all.ensures.bytes (c.loop-part.invariant.told told)))
