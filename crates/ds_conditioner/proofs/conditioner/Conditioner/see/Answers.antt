use Rattle.std.proofs.Common.{subst}
use Rattle.pcap_capture.specs.Frames.{FrameValue}
use Rattle.ds_conditioner.specs.Conditionings.{IsSeenOf}
use Rattle.ds_conditioner.proofs.ConditionLaws.{same_first}
use Rattle.ds_conditioner.proofs.conditioner.Conditioner.see.Goals as goal

pub returns-clause-seen : goal.returns-clause-seen
returns-clause-seen c f others at =
    let here = same_first c.args.self.now.held.ahead c.ahead.result f c.ahead.ensures.0 others c.ahead.ensures.1 at in
    let h = c.take_in.ensures.seen f others at in
    (h.0, h.1 (subst (λ (g : FrameValue). IsSeenOf c.args.port.now g c.see-seen.result) here.0 c.see-seen.ensures))
