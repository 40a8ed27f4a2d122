use Rattle.std.proofs.Common.{◌≡◌, ◌-◌, ◌≤◌, ◌++◌, arith, drop, length, length-drop, length-take, ap, ◌∙◌}
use Rattle.dsedge_meter.proofs.FigureLemmas.{in_front_of, word_length}
use Rattle.dsedge_meter.proofs.meter.write_word.Goals as goal

pub returns-clause-written : goal.returns-clause-written
returns-clause-written c =
    let room = c.args.room.now in
    let end = c.args.end in
    let size = c.word_of-size.result.1 in
    let word = c.copy_from_slice.new.self in
    let short : size ≤ 8 = omega (arith, word_length c.args.colour, c.word_of-size.ensures.size) in
    let within : end ≤ length room = omega (arith, c.requires, c.told-room) in
    let behind = length-drop (end - 8) room in
    let long : length word ≡ 8 = omega (arith, c.copy_from_slice.ensures.len, length-take (end - (end - 8)) (drop (end - 8) room), behind, within, c.requires) in
    in_front_of room word end size long short c.requires.0 within
    ∙ ap (λ l. l ++ drop end room) (ap (drop (8 - size)) c.copy_from_slice.ensures.after ∙ c.word_of-size.ensures.word)
