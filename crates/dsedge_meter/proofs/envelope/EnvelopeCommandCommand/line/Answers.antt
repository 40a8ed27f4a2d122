use Rattle.std.proofs.Common.{◌≡◌, ◌+◌, None, Some, sym, ap, ◌∙◌}
use Rattle.dsedge_lines.specs.Answers.{behind}
use Rattle.dsedge_lines.specs.declared.command.Ending.TheVariants.{BadLine}
use Rattle.dsedge_meter.specs.Arrivals.{sized_since}
use Rattle.dsedge_meter.specs.Verdicts.{Testing, verdict_behind}
use Rattle.dsedge_meter.proofs.MeteredLaws.{behind-nothing}
use Rattle.dsedge_meter.proofs.VerdictLaws.{sized_since_not_before, verdict_behind-bad, verdict_behind-good}
use Rattle.dsedge_meter.proofs.envelope.EnvelopeCommandCommand.line.Goals as goal

pub returns-in_default-clause-answer : goal.returns-in_default-clause-answer
returns-in_default-clause-answer c later =
    let newest : c.newest.result ≡ c.args.self.now.bucket.since = c.newest.ensures ∙ ap (λ (t : Testing). t.bucket.since) c.self.view_is in
    let none : sized_since c.args.self.now.bucket.since c.args.line.now ≡ None =
    ap (λ newest. sized_since newest c.args.line.now) (sym newest) ∙ sym c.sized_moment.ensures ∙ c.in_default.is in
    rw (verdict_behind-bad c.args.self.now c.args.number c.args.line.now later none) (behind-nothing c.args._out.now.items (BadLine c.args.number))

pub test-requires : goal.test-requires
test-requires c =
    let newest : c.newest.result ≡ c.args.self.now.bucket.since = c.newest.ensures ∙ ap (λ (t : Testing). t.bucket.since) c.self.view_is in
    sized_since_not_before c.args.self.now.bucket.since c.args.line.now c.in-Some.item
    (ap (λ newest. sized_since newest c.args.line.now) (sym newest) ∙ sym c.in-Some.ensures)

pub returns-clause-answer : goal.returns-clause-answer
returns-clause-answer c later =
    let t = c.args.self.now in
    let newest : c.newest.result ≡ t.bucket.since = c.newest.ensures ∙ ap (λ (t : Testing). t.bucket.since) c.self.view_is in
    let said : sized_since t.bucket.since c.args.line.now ≡ Some c.in-Some.item =
    ap (λ newest. sized_since newest c.args.line.now) (sym newest) ∙ sym c.in-Some.ensures in
    ap (λ answer. behind c.args._out.now.items answer)
    (ap (λ t. verdict_behind t (c.args.number + 1) later) c.test.ensures ∙ sym (verdict_behind-good t c.args.number c.args.line.now later c.in-Some.item said))
