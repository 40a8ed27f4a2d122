use Rattle.std.proofs.Common.{◌≡◌, ◌+◌, ◌++◌, Some, sym, ap, ◌∙◌}
use Rattle.line_text.specs.Lines.{lines_of}
use Rattle.dsedge_lines.specs.Answers.{behind}
use Rattle.dsedge_meter.specs.Arrivals.{sized_since}
use Rattle.dsedge_meter.specs.Verdicts.{Testing, verdict_behind}
use Rattle.dsedge_lines.proofs.FrontLemmas.{first_of_lines}
use Rattle.dsedge_meter.proofs.VerdictLaws.{sized_since_not_before, verdict_behind-good}
use Rattle.dsedge_meter.proofs.envelope.EnvelopeCommandCommand.front_line.Goals as goal

pub test-requires : goal.test-requires
test-requires c =
    let first = c.in-Some.ensures in
    let newest : c.newest.result ≡ c.args.self.now.bucket.since = c.newest.ensures ∙ ap (λ (t : Testing). t.bucket.since) c.self.view_is in
    sized_since_not_before c.args.self.now.bucket.since first.0 c.in-Some.item
    (ap (λ newest. sized_since newest first.0) (sym newest) ∙ first.2)

pub returns-clause-answer : goal.returns-clause-answer
returns-clause-answer c later =
    let t = c.args.self.now in
    let first = c.in-Some.ensures in
    let lines = lines_of (c.in-Some.rest.now ++ later) in
    let newest : c.newest.result ≡ t.bucket.since = c.newest.ensures ∙ ap (λ (t : Testing). t.bucket.since) c.self.view_is in
    let said : sized_since t.bucket.since first.0 ≡ Some c.in-Some.item = ap (λ newest. sized_since newest first.0) (sym newest) ∙ first.2 in
    rw (first_of_lines first.1 later) (ap (λ answer. behind c.args._out.now.items answer)
    (ap (λ t. verdict_behind t (c.args.number + 1) lines) c.test.ensures ∙ sym (verdict_behind-good t c.args.number first.0 lines c.in-Some.item said)))
