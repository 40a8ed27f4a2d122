use Rattle.std.proofs.Common.{◌++◌, Option, ap, ◌∙◌}
use Rattle.pcap_capture.specs.Frames.{link_in}
use Rattle.frame_marker.specs.Marks.{mark_in}
use Rattle.frame_marker.specs.declared.mark.Mark.{Mark}
use Rattle.ds_conditioner.specs.Texts.{text_in_class, text_with}
use Rattle.ds_conditioner.proofs.FateLaws.{on_ok}
use Rattle.ds_conditioner.proofs.records.add_marked.Goals as goal

pub returns-in-Some : goal.returns-in-Some
returns-in-Some c =
    let f = c.args.frame.now.frame in
    let out = c.args.out.now.items in
    on_ok c.add_seen.result _ _ (λ put seen. put seen
    ∙ ap (λ (m : Option Mark). out ++ text_with f c.dscp.result m) seen
    ∙ ap (λ d. out ++ text_with f d (mark_in (link_in f.content) f.bytes)) c.dscp.ensures.value
    ∙ ap (λ o. out ++ text_in_class f c.args.colour o) c.in-Some.ensures) c.add_seen.ensures
