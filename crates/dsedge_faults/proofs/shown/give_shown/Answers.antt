use Rattle.std.proofs.Common.{ap, sym, ◌∙◌}
use Rattle.dsedge_faults.specs.Faults.{shown}
use Rattle.dsedge_faults.proofs.FrontLemmas.{given_as, given_or_front}
use Rattle.dsedge_faults.proofs.shown.give_shown.Goals as goal

-- a plain name is shown as it is
pub returns-then-is_plain-clause-bytes : goal.returns-then-is_plain-clause-bytes
returns-then-is_plain-clause-bytes g c told =
    let plain = c.is_plain.ensures c.if-is_plain.true in
    given_as c.give_all.result (g.F.Outlet.held c.args.faults.now) (g.F.Outlet.held c.give_all.new.outlet) c.as_bytes-then-is_plain.result.now (shown c.args.name.now)
    (c.as_bytes-then-is_plain.ensures.value ∙ sym c.as_bytes.ensures.value ∙ sym plain ∙ ap shown c.as_bytes.ensures.value)
    (given_or_front c.give_all.result (g.F.Outlet.held c.args.faults.now) (g.F.Outlet.held c.give_all.new.outlet) c.as_bytes-then-is_plain.result.now (c.give_all.ensures.bytes told))
