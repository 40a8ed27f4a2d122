use Rattle.std.proofs.Common.{◌++◌, Some, ap, subst, sym, ◌∙◌}
use Rattle.pcapng_capture.specs.Marks.{marked_text}
use Rattle.frame_marker.specs.Frames.{marked_frame}
use Rattle.frame_marker.specs.Marks.{IsMarkOf}
use Rattle.ds_conditioner.specs.Fates.{IsFateOf, fate_text}
use Rattle.ds_conditioner.specs.Seens.{IsSeenAt, SeenValue}
use Rattle.ds_conditioner.proofs.FateLaws.{marked_in, on_ok}
use Rattle.ds_conditioner.proofs.stretch.add_fated.Goals as goal

pub returns-in-Marked : goal.returns-in-Marked
returns-in-Marked c =
    let f = c.args.frame in
    let out = c.args.out.now.items in
    let mark = c.in-Marked.mark in
    let dscp = c.in-Marked.dscp in
    let right : IsMarkOf (Some mark) f.bytes = subst (λ x. IsFateOf f x) c.in-Marked.is c.requires in
    let link = right.0 in
    let seen : IsSeenAt link c.new.result = subst (λ (s : SeenValue). IsSeenAt link s) (sym c.new.ensures) right.1 in
    on_ok c.add_with.result _ _ (λ put. put link seen ∙ ap (λ (s : SeenValue). out ++ marked_text s.frame (marked_frame link dscp s.frame.bytes)) c.new.ensures
    ∙ ap (λ it. out ++ marked_text f it) (marked_in dscp f.bytes link mark right.1) ∙ ap (λ x. out ++ fate_text f x) (sym c.in-Marked.is)) c.add_with.ensures
