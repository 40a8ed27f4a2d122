use Rattle.std.proofs.Common.{◌++◌, Option, ap, sym, ◌∙◌}
use Rattle.pcap_capture.specs.Frames.{link_in}
use Rattle.frame_marker.specs.declared.mark.Mark.{Mark}
use Rattle.ds_conditioner.specs.Texts.{text_with}
use Rattle.ds_conditioner.proofs.FateLaws.{on_ok}
use Rattle.ds_conditioner.proofs.records.add_seen.Goals as goal

pub returns-in-Some : goal.returns-in-Some
returns-in-Some c =
    let f = c.args.frame.now.frame in
    on_ok c.add_with.result _ _ (λ put seen. put (link_in f.content) seen
    ∙ ap (λ (m : Option Mark). c.args.out.now.items ++ text_with f c.args.dscp m) (sym c.in-Some.is ∙ c.seen_mark.ensures)) c.add_with.ensures
