use Rattle.std.proofs.Common.{refl}
use Rattle.dsedge_meter.specs.Verdicts.{Testing}
use Rattle.dsedge_meter.proofs.VerdictLaws.{verdict_behind-end}
use Rattle.dsedge_meter.proofs.envelope.EnvelopeCommandCommand.end.Goals as goal

pub returns-clause-answer : goal.returns-clause-answer
returns-clause-answer c =
    let t : Testing = record { bucket = c.self.inside.bucket; over = c.self.inside.over; in_json = c.self.inside.in_json } in
    rw (← c.self.view_is, verdict_behind-end t c.args._number, c.in_ok-extend_from_slice.ensures.items, c.as_slice.ensures.value, c.in_ok-text.ensures, c.verdict_ending.ensures) refl
