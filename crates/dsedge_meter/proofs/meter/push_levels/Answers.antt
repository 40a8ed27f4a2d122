use Rattle.std.proofs.Common.{◌≡◌, ◌+◌, ◌-◌, ◌≤◌, arith, refl, ap, drop, length, replicate, take, ◌∙◌}
use Rattle.dsedge_meter.specs.Metered.{levels_line_of}
use Rattle.dsedge_meter.proofs.FigureLemmas.{line_left, line_length, line_of_parts}
use Rattle.dsedge_meter.proofs.meter.push_levels.Goals as goal

pub returns-clause-ok : goal.returns-clause-ok
returns-clause-ok c =
    let text = c.args.text.now.items in
    let line = levels_line_of c.args.colour c.args.levels in
    let figures = c.write_levels-figures in
    let word = c.write_word-begin in
    let begin = word.result in
    let size = line_length c.args.colour c.args.levels begin figures.result word.ensures.start figures.ensures.start in
    let parts = line_of_parts c.args.colour c.args.levels (replicate 64 10) figures.new.room word.new.room begin figures.result refl figures.ensures.written word.ensures.written in
    let end = c.len.result + (32 - begin) in
    let short : length line ≤ 32 = omega (arith, size) in
    let long : end ≡ length text + length line = omega (arith, size, c.len.ensures) in
    c.truncate.ensures.items ∙ ap (take end) (c.in_ok-extend_from_slice.ensures.items)
    ∙ line_left text word.new.room line (drop 32 (replicate 64 10)) begin end parts short long
