use Rattle.std.proofs.Common.{IfOk, ap, subst, ◌≡◌, ◌∙◌}
use Rattle.ds_certificate.specs.Bounds.{least}
use Rattle.ds_checker.specs.Acceptance.{Table}
use Rattle.dsedge_draw.specs.Drawings.{drawing_of}
use Rattle.dsedge_draw.proofs.drawing.draw_least.Goals as goal

pub returns-in-Ok : goal.returns-in-Ok
returns-in-Ok c =
    subst (λ (t : Table). IfOk c.draw_candidate-drawn.result (λ drawn. drawn.items ≡ drawing_of t))
    (ap (λ certificate. record { domain = c.args.domain; contracts = c.args.contracts.items; certificate = certificate }) (c.in-Ok.ensures.value ∙ ap (least c.args.domain) c.as_slice.ensures.value)) c.draw_candidate-drawn.ensures
