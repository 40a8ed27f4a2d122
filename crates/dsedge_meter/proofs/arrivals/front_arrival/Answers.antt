use Rattle.std.proofs.Common.{sym, ◌∙◌}
use Rattle.dsedge_meter.proofs.FrontLemmas.{arrival_line}
use Rattle.dsedge_meter.proofs.arrivals.front_arrival.Goals as goal

pub returns : goal.returns
returns c =
    let sized = c.in_ok-moment.ensures in
    rw (sized.0, sized.1) (arrival_line c.args.line_number c.args.text.now c.in_ok-nanoseconds.sizes.now c.in_ok-bytes.letters.now c.in_ok-letter.end.now c.in_ok-rest.rest.now
    c.in_ok-nanoseconds.nanoseconds c.in_ok-bytes.bytes c.in_ok-letter.letter.now c.in_ok-letter_colour.field-0
    c.in_ok-nanoseconds.ensures.number c.in_ok-bytes.ensures.number c.in_ok-letter.ensures.cases.0 c.in_ok-rest.ensures.behind sized.2 sized.3 sized.4
    (sym c.letter_colour.ensures ∙ c.in_ok-letter_colour.was))
