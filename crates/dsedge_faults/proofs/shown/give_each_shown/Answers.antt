use Rattle.std.proofs.Common.{[], ◌∷◌, ap}
use Rattle.std.proofs.lemmas.Result.{err_from_is_err_and}
use Rattle.dsedge_faults.specs.Faults.{shown_byte}
use Rattle.dsedge_faults.proofs.FrontLemmas.{part_refused}
use Rattle.dsedge_faults.proofs.shown.give_each_shown.Goals as goal

pub returns-in_err-give_all-clause-bytes : goal.returns-in_err-give_all-clause-bytes
returns-in_err-give_all-clause-bytes g c told =
    let p = err_from_is_err_and c.from_residual.result c.from_residual.ensures.1 in
    rw p.1 (part_refused (λ byte. shown_byte byte ∷ []) c.args.bytes.now c.loop-byte.byte-index _ (c.shown_byte.result ∷ []) (g.F.Outlet.held c.args.faults.now)
    (g.F.Outlet.held c.loop-byte.faults) (g.F.Outlet.held c.give_all.new.outlet) c.loop-byte-test.true (ap (λ byte. byte ∷ []) c.shown_byte.ensures)
    (c.loop-byte.invariant.bytes told) (c.in_err-give_all.ensures.bytes (c.loop-byte.invariant.told told)))
