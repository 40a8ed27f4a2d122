use Rattle.std.proofs.Common.{ap, ◌∙◌, decimal}
use Rattle.dsedge_texts.specs.Wording.{text_or_dash}
use Rattle.dsedge_faults.specs.Faults.{fault_text}
use Rattle.dsedge_faults.specs.declared.fault.Fault.TheVariants.{Domain}
use Rattle.dsedge_faults.proofs.FrontLemmas.{domain_line, given_as}
use Rattle.dsedge_faults.proofs.fault.tell_domain.Goals as goal

pub returns-clause-line : goal.returns-clause-line
returns-clause-line g c told =
    given_as c.give_parts.result (g.F.Outlet.held c.args.faults.now) (g.F.Outlet.held c.give_parts.new.outlet) _ (fault_text (Domain c.args.fault.now))
    (domain_line c.args.fault.now c.format.result.now c.kind_text.result.now c.text.result.now c.format-2.result.now c.text_or_dash.result.now
    (c.format.ensures.text ∙ ap decimal c.code.ensures) c.kind_text.ensures c.text.ensures c.format-2.ensures.text
    (c.text_or_dash.ensures ∙ ap text_or_dash c.text-2.ensures)) (c.give_parts.ensures.bytes told)
