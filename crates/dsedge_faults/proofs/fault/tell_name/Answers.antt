use Rattle.std.proofs.Common.{◌++◌, ap, codes, ◌∙◌}
use Rattle.std.proofs.lemmas.Result.{err_from_is_err_and}
use Rattle.pcap_capture.proofs.FrontLaws.{IsFrontOf-given}
use Rattle.dsedge_faults.specs.Faults.{shown}
use Rattle.dsedge_faults.proofs.FrontLemmas.{behind_told, first_of_three, given_or_front, second_of_three}
use Rattle.dsedge_faults.proofs.fault.tell_name.Goals as goal

pub returns-in_err-give_all-clause-line : goal.returns-in_err-give_all-clause-line
returns-in_err-give_all-clause-line g c told =
    let p = err_from_is_err_and c.from_residual.result c.from_residual.ensures.1 in
    let given = c.in_err-give_all.ensures.bytes told in
    rw (p.1, ← c.as_bytes.ensures.value) (first_of_three (g.F.Outlet.held c.args.faults.now) (g.F.Outlet.held c.give_all.new.outlet) c.as_bytes.result.now (shown c.args.name.now) (codes "\n")
    (IsFrontOf-given (g.F.Outlet.held c.args.faults.now) c.as_bytes.result.now (g.F.Outlet.held c.give_all.new.outlet) given.0 given.1))

pub returns-in_err-give_shown-clause-line : goal.returns-in_err-give_shown-clause-line
returns-in_err-give_shown-clause-line g c told =
    let p = err_from_is_err_and c.from_residual-in_err-give_shown.result c.from_residual-in_err-give_shown.ensures.1 in
    rw p.1 (second_of_three (g.F.Outlet.held c.args.faults.now) (g.F.Outlet.held c.give_all.new.outlet) (g.F.Outlet.held c.give_shown.new.faults) c.args.front.now (shown c.args.name.now) (codes "\n")
    (c.in_ok-give_all.ensures.bytes told ∙ ap (λ text. g.F.Outlet.held c.args.faults.now ++ text) c.as_bytes.ensures.value)
    (c.in_err-give_shown.ensures.bytes (c.in_ok-give_all.ensures.told told)))

pub returns-clause-line : goal.returns-clause-line
returns-clause-line g c told =
    let begun = c.in_ok-give_all.ensures.told told in
    let named = c.in_ok-give_shown.ensures.told begun in
    behind_told c.give_all-2.result (g.F.Outlet.held c.args.faults.now) (g.F.Outlet.held c.give_all.new.outlet) (g.F.Outlet.held c.give_all-2.new.outlet) c.args.front.now (shown c.args.name.now ++ codes "\n")
    (c.in_ok-give_all.ensures.bytes told ∙ ap (λ text. g.F.Outlet.held c.args.faults.now ++ text) c.as_bytes.ensures.value)
    (behind_told c.give_all-2.result (g.F.Outlet.held c.give_all.new.outlet) (g.F.Outlet.held c.give_shown.new.faults) (g.F.Outlet.held c.give_all-2.new.outlet) (shown c.args.name.now) (codes "\n")
    (c.in_ok-give_shown.ensures.bytes begun)
    (given_or_front c.give_all-2.result (g.F.Outlet.held c.give_shown.new.faults) (g.F.Outlet.held c.give_all-2.new.outlet) (codes "\n") (c.give_all-2.ensures.bytes named)))
