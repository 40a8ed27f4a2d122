use Rattle.std.proofs.Common.{[], if◌then◌else◌, ap, sym, ◌∙◌}
use Rattle.meter_fabric_base.specs.Grounds.{contract_of, ground_of}
use Rattle.ds_conditioner.specs.Texts.{record_text, text_in_class}
use Rattle.ds_conditioner.proofs.fate.fate_of.Goals as goal

pub returns-clause-text : goal.returns-clause-text
returns-clause-text c f is =
    let p = c.args.port.now in
    let colour = c.in-Some.colour in
    let own = text_in_class f colour (contract_of (ground_of p.accepted.now) c.in-Some.packet.flow) in
    sym (ap (λ o. record_text p.accepted.now p.red f o) c.in-Some.is
    ∙ ap (λ dropped. if dropped then [] else own) (sym c.is_dropped.ensures ∙ c.if-is_dropped.false)
    ∙ ap (λ o. text_in_class f colour o) (sym c.contract_of.ensures)
    ∙ sym (c.fate_in_class.ensures.text f is))

pub returns-in_default-clause-text : goal.returns-in_default-clause-text
returns-in_default-clause-text c f is =
    let p = c.args.port.now in
    sym (ap (λ o. record_text p.accepted.now p.red f o) c.in_default.is)
