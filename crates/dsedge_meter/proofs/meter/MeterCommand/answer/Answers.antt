use Rattle.std.proofs.Common.{◌≡◌, ◌+◌, ◌∷◌, ◌++◌, ap, subst, sym, ◌∙◌}
use Rattle.dsedge_lines.specs.Answers.{behind}
use Rattle.dsedge_lines.specs.declared.command.Ending.TheVariants.{Full}
use Rattle.meter_book_base.specs.AnyMeter.{left_of, levels_of}
use Rattle.meter_book.specs.Replay.{offer_of}
use Rattle.meter_book.specs.Running.{Running}
use Rattle.dsedge_meter.specs.Metered.{Telling, answer_of, line_for, packet_line, told_on}
use Rattle.dsedge_meter.proofs.MeteredLaws.{answer_of-full, answer_of-noted, behind-line, behind-nothing}
use Rattle.dsedge_meter.proofs.meter.MeterCommand.answer.Goals as goal

pub returns-in_ok-push_packet-in-Ok : goal.returns-in_ok-push_packet-in-Ok
returns-in_ok-push_packet-in-Ok c number line later said =
    let t : Telling = record { meter = c.self.inside.meter; has_levels = c.self.inside.has_levels; in_json = c.self.inside.in_json } in
    let a = c.args.arrival in
    let out = c.args.out.now.items in
    let now = c.push_packet.new.out.items in
    let told : now ≡ out ++ line_for t a =
    c.in_ok-push_packet-in-Ok.ensures.ok
    ∙ ap (λ left. out ++ packet_line t.has_levels left (levels_of c.note.new.self.standing.meter)) c.in-Ok.ensures.colour
    ∙ ap (λ (r : Running). out ++ packet_line t.has_levels (left_of t.meter.standing.meter (offer_of a)) (levels_of r.standing.meter)) c.in-Ok.ensures.counted in
    rw (← c.self.view_is)
    (subst (λ (on : Running). behind now (answer_of (record { meter = on; has_levels = t.has_levels; in_json = t.in_json }) (number + 1) later) ≡ behind out (answer_of t number (line ∷ later))) (sym c.in-Ok.ensures.counted)
    (behind-line out now (line_for t a) (answer_of t number (line ∷ later)) (answer_of (told_on t a) (number + 1) later) told
    (answer_of-noted t number line later a said c.in-Ok.ensures.room)))

pub returns-in-Err : goal.returns-in-Err
returns-in-Err c number line later said =
    let t : Telling = record { meter = c.self.inside.meter; has_levels = c.self.inside.has_levels; in_json = c.self.inside.in_json } in
    rw (← c.self.view_is, answer_of-full t number line later c.args.arrival said c.in-Err.ensures.full) (behind-nothing c.args.out.now.items Full)
