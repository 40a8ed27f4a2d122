use Rattle.std.proofs.Common.{codes, refl}
use Rattle.line_text.specs.Lines.{has_byte}
use Rattle.dsedge_audit.proofs.StepLaws.{step_behind}
use Rattle.dsedge_audit.proofs.step_line.front_step.Goals as goal

pub returns-in-Some : goal.returns-in-Some
unfolding has_byte
returns-in-Some c =
    let contracts = c.args.flows.now.contracts in
    step_behind (λ rest. rest.now) contracts (codes "visit") c.args.text.now c.in-Some.fields.now c.front_visit.result refl refl c.in-Some.ensures.behind (c.front_visit.ensures contracts)

pub returns : goal.returns
unfolding has_byte
returns c =
    let contracts = c.args.flows.now.contracts in
    step_behind (λ rest. rest.now) contracts (codes "send") c.args.text.now c.in_ok-behind_word.field-0.now c.front_send.result refl refl c.in_ok-behind_word.ensures.behind c.front_send.ensures
