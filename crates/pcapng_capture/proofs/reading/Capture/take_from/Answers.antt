use Rattle.std.proofs.Common.{◌≡◌, ℕ, false, None, Some, Err, sym, ap, ◌∙◌, inr}
use Rattle.std.proofs.lemmas.Result.{err_from_is_err_and}
use Rattle.pcapng_capture.specs.Grammar.{CaptureState, broken}
use Rattle.pcap_capture.specs.Takings.{is_read_fault}
use Rattle.pcap_capture.proofs.OwnLaws.{own_unread}
use Rattle.pcapng_capture.proofs.OwnLaws.{stops_own_by}
use Rattle.pcapng_capture.proofs.TakingLaws.{failed_again, gone_on, starved_first}
use Rattle.pcapng_capture.proofs.reading.Capture.take_from.Goals as goal

pub returns-then-self-clause-err : goal.returns-then-self-clause-err
returns-then-self-clause-err g c =
    let left = g.I.Intake.left c.args.intake.now in
    inr (failed_again (g.I.Intake.tells c.args.intake.now) c.args.most left c.args.self.now c.args.out.now (sym c.self.view_is ∙ c.self.invariant c.if-self.true))

pub returns-in_default-clause-err : goal.returns-in_default-clause-err
returns-in_default-clause-err g c =
    let left = g.I.Intake.left c.args.intake.now in
    let same : c.take_behind.new.intake ≡ c.args.intake.now = c.in_default.ensures.starved in
    inr (rw same (starved_first (g.I.Intake.tells c.args.intake.now) c.args.most left c.args.self.now c.replace.new.dest c.args.out.now (c.replace.ensures.after ∙ c.broken.ensures)))

pub returns-in_err-go_on-clause-err : goal.returns-in_err-go_on-clause-err
returns-in_err-go_on-clause-err g c =
    let tells = g.I.Intake.tells c.args.intake.now in
    let left = g.I.Intake.left c.args.intake.now in
    let more = g.I.Intake.left c.take_behind.new.intake in
    let fault = c.in_err-go_on.field-0.0 in
    let it = rw c.in-Ok-answer.is at c.in-Ok.ensures.ok in
    let was : record { section = c.section.inside.section; rest = c.section.inside.rest; is_broken = c.section.inside.is_broken } ≡ c.args.self.now = c.section.view_is ∙ c.replace.ensures.value in
    let whole : (c.args.self.now).is_broken ≡ false = sym (ap (λ (s : CaptureState). s.is_broken) c.self.view_is) ∙ c.if-self.false in
    let over : c.go_on.new.self ≡ broken = c.in_err-go_on.ensures.err.0 ∙ c.replace.ensures.after ∙ c.broken.ensures in
    let p = err_from_is_err_and c.from_residual.result c.from_residual.ensures.1 in
    rw (p.1, p.2) (inr (gone_on tells c.args.most c.in-Ok-answer.taken left more it.0 _ _ c.section.inside.section _ c.args.self.now c.go_on.new.self c.args.out.now c.go_on.new.out (Some fault) was whole it.3 it.1 it.2 it.4
    (over, c.in_err-go_on.ensures.err.1)).0)

pub returns-in_err-go_on-clause-reads : goal.returns-in_err-go_on-clause-reads
returns-in_err-go_on-clause-reads g c =
    let fault = c.in_err-go_on.field-0.0 in
    let unread : is_read_fault {T = ℕ} (Err fault) ≡ false = own_unread fault (stops_own_by fault c.args.out.now c.go_on.new.out _ _ c.in_err-go_on.ensures.err.1) in
    let p = err_from_is_err_and c.from_residual.result c.from_residual.ensures.1 in
    rw (p.1, p.2) (rw unread (rw c.in-Ok-answer.is at c.in-Ok.ensures.reads))

pub returns-clause-ok : goal.returns-clause-ok
returns-clause-ok g c =
    let tells = g.I.Intake.tells c.args.intake.now in
    let left = g.I.Intake.left c.args.intake.now in
    let more = g.I.Intake.left c.take_behind.new.intake in
    let it = rw c.in-Ok-answer.is at c.in-Ok.ensures.ok in
    let was : record { section = c.section.inside.section; rest = c.section.inside.rest; is_broken = c.section.inside.is_broken } ≡ c.args.self.now = c.section.view_is ∙ c.replace.ensures.value in
    let whole : (c.args.self.now).is_broken ≡ false = sym (ap (λ (s : CaptureState). s.is_broken) c.self.view_is) ∙ c.if-self.false in
    gone_on tells c.args.most c.in-Ok-answer.taken left more it.0 _ _ c.section.inside.section _ c.args.self.now c.go_on.new.self c.args.out.now c.go_on.new.out None was whole it.3 it.1 it.2 it.4 c.in_ok-go_on.ensures.ok
