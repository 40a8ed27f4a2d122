use Rattle.std.proofs.Common.{refl}
use Rattle.dsedge_meter.specs.Metered.{Telling}
use Rattle.dsedge_meter.proofs.MeteredLaws.{answer_of-end}
use Rattle.dsedge_meter.proofs.meter.MeterCommandCommand.end.Goals as goal

pub returns-clause-answer : goal.returns-clause-answer
returns-clause-answer c =
    let t : Telling = record { meter = c.self.inside.meter; has_levels = c.self.inside.has_levels; in_json = c.self.inside.in_json } in
    rw (← c.self.view_is, answer_of-end t c.args._number, c.in_ok-extend_from_slice.ensures.items, c.as_slice.ensures.value, c.in_ok-text.ensures, c.accounts.ensures) refl
