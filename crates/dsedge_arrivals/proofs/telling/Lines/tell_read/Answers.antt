use Rattle.std.proofs.Common.{◌≡◌, List, ℕ, ◌++◌, ap₂, subst, ◌∙◌}
use Rattle.pcap_capture.specs.Fronts.{IsFrontOf}
use Rattle.pcap_capture.proofs.FrontLaws.{IsFrontOf-given}
use Rattle.dsedge_arrivals.specs.Arrivals.{lines_from}
use Rattle.dsedge_arrivals.proofs.telling.Lines.tell_read.Goals as goal

pub returns-in-Err-hand_over-clause-lines : goal.returns-in-Err-hand_over-clause-lines
returns-in-Err-hand_over-clause-lines g c = λ tells.
    let before = g.O.Outlet.held c.args.output.now in
    let after = g.O.Outlet.held c.hand_over.new.outlet in
    let lines = lines_from c.args.filter.now c.args.self.now.newest c.args.progress.now.piece in
    let text : c.push_piece.new.out.items ≡ lines =
    c.in-Ok.ensures.1 ∙ ap₂ (λ (out : List ℕ) piece. out ++ lines_from c.args.filter.now c.args.self.now.newest piece) c.requires.0 c.change_piece-piece.ensures.taken in
    let given = c.in-Err-hand_over.ensures.bytes tells in
    subst (λ (t : List ℕ). IsFrontOf before t after) text (IsFrontOf-given before c.push_piece.new.out.items after given.0 given.1)
