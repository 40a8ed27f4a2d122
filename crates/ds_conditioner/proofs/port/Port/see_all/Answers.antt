use Rattle.std.proofs.Common.{List, subst, sym}
use Rattle.std.proofs.lemmas.Result.{IfOk-weaker}
use Rattle.frame_marker.specs.declared.sight.Seen.{Seen}
use Rattle.ds_conditioner.specs.Conditionings.{AreSeenOf}
use Rattle.ds_conditioner.proofs.SeenLaws.{seen_all}
use Rattle.ds_conditioner.proofs.port.Port.see_all.Goals as goal

pub returns : goal.returns
returns c =
    let p = c.args.self.now in
    let frames = c.args.piece.now in
    IfOk-weaker c.see_all.result _ _ (λ seen is. subst (λ (all : List Seen). AreSeenOf p frames all) (sym is) (seen_all p frames)) c.see_all.ensures
