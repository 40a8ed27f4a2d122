use Rattle.std.proofs.Common.{option_copied, ap, sym, ◌∙◌}
use Rattle.af_marker.specs.CodePoints.{code_point}
use Rattle.pcap_capture.specs.Frames.{link_in}
use Rattle.pcapng_capture.specs.Marks.{marked_text}
use Rattle.frame_marker.specs.Frames.{marked_frame}
use Rattle.ds_conditioner.specs.Texts.{text_in_class, text_with}
use Rattle.ds_conditioner.proofs.FateLaws.{marked_in}
use Rattle.ds_conditioner.proofs.fate.fate_in_class.Goals as goal

pub returns-in-None-mark-clause-text : goal.returns-in-None-mark-clause-text
returns-in-None-mark-clause-text c f is =
    sym (ap (λ o. text_in_class f c.args.colour (option_copied o)) c.in-Some.is
    ∙ ap (text_with f (code_point c.in-Some.contract.now.class c.args.colour)) (sym is ∙ c.in-None-mark.is))

pub returns-in-Some-mark-clause-text : goal.returns-in-Some-mark-clause-text
returns-in-Some-mark-clause-text c f is =
    let own = marked_in c.dscp.result f.bytes (link_in f.content) c.in-Some-mark.mark (sym c.in-Some-mark.is ∙ is) in
    sym (ap (λ o. text_in_class f c.args.colour (option_copied o)) c.in-Some.is
    ∙ ap (text_with f (code_point c.in-Some.contract.now.class c.args.colour)) (sym is ∙ c.in-Some-mark.is)
    ∙ ap (λ d. marked_text f (marked_frame (link_in f.content) d f.bytes)) (sym c.dscp.ensures.value) ∙ ap (marked_text f) own)
