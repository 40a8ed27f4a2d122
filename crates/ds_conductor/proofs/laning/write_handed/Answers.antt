use Rattle.std.proofs.Common.{◌≡◌, ◌++◌, take, ap, ◌∙◌}
use Rattle.pcap_capture.proofs.FrontLaws.{IsFrontOf-given}
use Rattle.ds_conductor.proofs.laning.write_handed.Goals as goal

pub returns-in-Ok-hand_over-clause-text : goal.returns-in-Ok-hand_over-clause-text
returns-in-Ok-hand_over-clause-text g c = λ tells.
    let held = g.O.Outlet.held c.args.outlet.now in
    let same : c.add_to.new.out.items ≡ c.args.handed.now = c.in-Ok.ensures ∙ ap (λ it. it ++ c.args.handed.now) c.clear.ensures.items in
    c.in-Ok-hand_over.ensures.bytes tells ∙ ap (λ it. held ++ it) same

pub returns-in-Err-clause-text : goal.returns-in-Err-clause-text
returns-in-Err-clause-text g c = λ tells.
    let held = g.O.Outlet.held c.args.outlet.now in
    let same : c.add_to.new.out.items ≡ c.args.handed.now = c.in-Ok.ensures ∙ ap (λ it. it ++ c.args.handed.now) c.clear.ensures.items in
    let given = c.in-Err.ensures.bytes tells in
    IsFrontOf-given held c.args.handed.now (g.O.Outlet.held c.hand_over.new.outlet) given.0 (given.1 ∙ ap (λ it. held ++ take given.0 it) same)
