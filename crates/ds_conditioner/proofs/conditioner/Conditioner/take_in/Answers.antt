use Rattle.std.proofs.Common.{arith, ◌≡◌, [], ◌∷◌, ◌++◌, Option, ap, ap₂, refl, subst, sym, true, ◌∙◌, max, option_to_list}
use Rattle.pcap_capture.specs.Frames.{FrameValue}
use Rattle.ds_runs.specs.Judging.{verdict_with}
use Rattle.frame_marker.specs.declared.mark.Mark.{Mark}
use Rattle.ds_conductor_base.specs.Streams.{Stream}
use Rattle.ds_conditioner.specs.Conditionings.{IsConditioned}
use Rattle.ds_conditioner.specs.declared.conditioner.Conditioner.{Conditioner}
use Rattle.ds_conditioner.specs.Helds.{HeldFramesValue, HeldValue}
use Rattle.ds_conditioner.specs.Sendings.{counted_on, stamp_of}
use Rattle.ds_conditioner.proofs.ConditionLaws.{same_first, seen}
use Rattle.ds_conditioner.proofs.NextLaws.{on_err}
use Rattle.ds_conditioner.proofs.conditioner.Conditioner.take_in.Goals as goal

pub returns-clause-seen : goal.returns-clause-seen
returns-clause-seen c f others at =
    let p = c.args.port.now in
    let rest = c.send.ensures.rest in
    let packet = c.packet_of-packet.result in
    let here = same_first c.args.self.now.held.ahead c.ahead.result f c.ahead.ensures.0 others c.ahead.ensures.1 at in
    let noted = c.note.ensures in
    let same : c.send.new.self.held ≡ c.args.self.now.held = ap (λ d. d.held) rest in
    let front = same_first c.send.new.self.held.ahead noted.0 f c.note.new.self.ahead others noted.1 (ap (λ (h : HeldFramesValue). h.ahead) same ∙ at) in
    let moment : c.stamp_of.result ≡ stamp_of f = c.stamp_of.ensures ∙ ap stamp_of here.0 in (
      front.1,
      λ told frames text was.
          seen p frames text f c.args.seen.sight c.later-moment.result packet c.args.self.now _ was
          told.0 (c.later-moment.ensures ∙ ap (max c.args.self.now.newest) moment) c.packet_of-packet.ensures
          refl (c.add.ensures ∙ ap (λ d. counted_on d.counts c.args.seen.sight) rest) (ap (λ d. d.tallies) rest)
          (noted.2 ∙ ap (λ (h : HeldFramesValue). h.held ++ record { frame = record { frame = noted.0; mark = c.args.seen.mark }; packet = packet } ∷ []) same
          ∙ ap₂ (λ (g : FrameValue) (m : Option Mark). let h : HeldValue = record { frame = record { frame = g; mark = m }; packet = packet } in c.args.self.now.held.held ++ h ∷ []) front.0 told.1)
          c.in_ok-send.ensures.comes
          (λ back. c.note-2.ensures back ∙ ap (λ d. verdict_with d.judge (option_to_list packet ++ back)) rest)
          (let due = c.due-self.ensures in omega (arith, due)) c.send.ensures.table,
    )

pub returns-in_err-send-clause-unseen : goal.returns-in_err-send-clause-unseen
returns-in_err-send-clause-unseen c =
    let same : c.send.new.self ≡ c.args.self.now =
    c.send.ensures.rest ∙ ap (λ (u : Stream). let d : Conditioner = record c.args.self.now { under_way = u } in d) c.in_err-send.ensures.unchanged in
    on_err c.from_residual.result (λ before text was.
    subst (λ (d : Conditioner). IsConditioned c.args.port.now true before text d) (sym same) was)
