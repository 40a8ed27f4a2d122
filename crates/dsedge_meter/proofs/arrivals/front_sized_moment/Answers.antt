use Rattle.std.proofs.Common.{arith}
use Rattle.dsedge_meter.proofs.FrontLemmas.{sized_line}
use Rattle.dsedge_meter.proofs.arrivals.front_sized_moment.Goals as goal

pub returns : goal.returns
returns c =
    let sized = c.in_ok-moment.ensures in
    rw (c.from.ensures, c.get-3.ensures.value, sized.0, sized.1) (sized_line c.args.newest c.args.text.now c.in_ok-nanoseconds.sizes.now c.in_ok-bytes.rest.now
    c.in_ok-nanoseconds.nanoseconds c.in_ok-bytes.bytes c.in_ok-nanoseconds.ensures.number c.in_ok-bytes.ensures.number sized.2 sized.3 sized.4
    (omega (arith, sized.0, c.if-get.false, c.get.ensures.value, c.get-2.ensures.value)))
