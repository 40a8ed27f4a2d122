use Rattle.std.proofs.Common.{◌≡◌, ℕ, false, None, Some, Err, subst, ap, ◌∙◌, inl, inr}
use Rattle.std.proofs.lemmas.Result.{err_from_is_err_and}
use Rattle.pcap_capture.specs.Grammar.{CaptureState, broken}
use Rattle.pcap_capture.specs.Takings.{IsTaken, is_read_fault}
use Rattle.pcap_capture.specs.declared.fault.PcapFault.TheVariants.{Failed}
use Rattle.pcap_capture.proofs.OwnLaws.{own_unread}
use Rattle.pcap_capture.proofs.TakingLaws.{failed_again, gone_on_by, taken_unread}
use Rattle.pcap_capture.proofs.reading.Capture.take_from.Goals as goal

pub returns-in-Broken-clause-err : goal.returns-in-Broken-clause-err
returns-in-Broken-clause-err g c =
    let left = g.I.Intake.left c.args.intake.now in
    let again = failed_again (g.I.Intake.tells c.args.intake.now) c.args.most left (record { stage = c.self.inside.stage; rest = c.self.inside.rest }) c.args.out.now c.self.invariant c.in-Broken.is in
    inr (subst (λ (s : CaptureState). IsTaken (g.I.Intake.tells c.args.intake.now) c.args.most left left s s c.args.out.now c.args.out.now (Some Failed)) c.self.view_is again)

pub returns-in_err-go_on : goal.returns-in_err-go_on
returns-in_err-go_on g c =
    let tells = g.I.Intake.tells c.args.intake.now in
    let left = g.I.Intake.left c.args.intake.now in
    let more = g.I.Intake.left c.take_behind.new.intake in
    let fault = c.in_err-go_on.field-0.0 in
    let it = rw c.in-Ok-answer.is at c.in-Ok.ensures.ok in
    let was : record { stage = c.stage.inside.stage; rest = c.stage.inside.rest } ≡ c.args.self.now = c.stage.view_is ∙ c.replace.ensures.value in
    let over : c.go_on.new.self ≡ broken = c.in_err-go_on.ensures.err.0 ∙ c.replace.ensures.after ∙ c.broken.ensures in
    let read : IsTaken tells c.args.most left more c.args.self.now c.go_on.new.self c.args.out.now c.go_on.new.out (Some fault) =
    (gone_on_by tells c.args.most c.in-Ok-answer.taken left more it.0 _ _ _ c.args.self.now c.go_on.new.self c.args.out.now c.go_on.new.out (Some fault) was it.3 it.1 it.2 it.4
    (over, c.in_err-go_on.ensures.err.1)).0 in
    let unread : is_read_fault {T = ℕ} (Err fault) ≡ false = own_unread fault (taken_unread tells c.args.most left more c.args.self.now c.go_on.new.self c.args.out.now c.go_on.new.out fault read) in
    let p = err_from_is_err_and c.from_residual.result c.from_residual.ensures.1 in
    rw (p.1, p.2) (record {
      told = c.in-Ok.ensures.told;
      ok = tt;
      err = inr read;
      end = λ tells is. cc;
      reads = rw unread (rw c.in-Ok-answer.is at c.in-Ok.ensures.reads);
      fewer = inl (rw c.in-Ok-answer.is at c.in-Ok.ensures.fewer);
      no_more = c.in-Ok.ensures.no_more;
      broken = λ is. absurd (c.in_default.not-Broken (ap (λ (s : CaptureState). s.stage) c.self.view_is ∙ is));
    })

pub returns : goal.returns
returns g c =
    let tells = g.I.Intake.tells c.args.intake.now in
    let left = g.I.Intake.left c.args.intake.now in
    let more = g.I.Intake.left c.take_behind.new.intake in
    let it = rw c.in-Ok-answer.is at c.in-Ok.ensures.ok in
    let was : record { stage = c.stage.inside.stage; rest = c.stage.inside.rest } ≡ c.args.self.now = c.stage.view_is ∙ c.replace.ensures.value in
    record {
      told = c.in-Ok.ensures.told;
      ok = gone_on_by tells c.args.most c.in-Ok-answer.taken left more it.0 _ _ _ c.args.self.now c.go_on.new.self c.args.out.now c.go_on.new.out None was it.3 it.1 it.2 it.4 c.in_ok-go_on.ensures.ok;
      err = tt;
      end = λ tells is. c.in-Ok.ensures.end tells cc;
      reads = rw c.in-Ok-answer.is at c.in-Ok.ensures.reads;
      fewer = inl (rw c.in-Ok-answer.is at c.in-Ok.ensures.fewer);
      no_more = c.in-Ok.ensures.no_more;
      broken = λ is. absurd (c.in_default.not-Broken (ap (λ (s : CaptureState). s.stage) c.self.view_is ∙ is));
    }
