use Rattle.std.proofs.Common.{◌≡◌, ap, length, sym, ◌∙◌, arith}
use Rattle.ds_conductor_base.specs.Streams.{colours_left, decided, handed, handed_by}
use Rattle.ds_conductor_base.proofs.UnderWayLaws.{first_is, handed_all, handed_colour, handed_counted, handed_is, handed_told, not_yet}
use Rattle.ds_conductor_base.proofs.under_way.UnderWay.decided.Goals as goal

pub returns-then-branch-gt0-clause-answer : goal.returns-then-branch-gt0-clause-answer
returns-then-branch-gt0-clause-answer c =
    let u = c.self.inside in
    let none = not_yet u.first u.packets.items u.waiting c.in_ok-front.field-0.now (sym c.in_ok-front.ensures.item.0) c.in_ok-front.ensures.lookup c.if-branch-gt0.true c.self.invariant.counted in
    sym (ap decided (sym c.self.view_is) ∙ none)

pub returns-then-branch-gt0-clause-handed : goal.returns-then-branch-gt0-clause-handed
returns-then-branch-gt0-clause-handed c =
    let u = c.self.inside in
    let none = not_yet u.first u.packets.items u.waiting c.in_ok-front.field-0.now (sym c.in_ok-front.ensures.item.0) c.in_ok-front.ensures.lookup c.if-branch-gt0.true c.self.invariant.counted in
    sym (ap (λ o. handed_by o c.args.self.now) (ap decided (sym c.self.view_is) ∙ none))

pub invariant_of-self-2 : goal.invariant_of-self-2
invariant_of-self-2 c =
    let u = c.self.inside in
    let front = c.in_ok-front.field-0.now in
    let same = first_is u.packets.items c.pop_front.new.self.items front c.in_ok-packet.packet c.in_ok-packet.ensures.items c.in_ok-front.ensures.lookup in
    let through : c.in_ok-packet.packet.left ≡ 0 = omega (arith, same) in
    let long = ap length c.in_ok-packet.ensures.items in
    let numbered = c.self.invariant.numbered in
    record {
      ways = c.self.invariant.ways;
      stream = handed_is u.accepted.now u.meters.items u.first u.packets.items c.pop_front.new.self.items c.in_ok-packet.packet u.waiting c.in_ok-packet.ensures.items through c.self.invariant.counted c.self.invariant.stream;
      counted = handed_counted u.accepted.now u.meters.items u.first u.packets.items c.pop_front.new.self.items c.in_ok-packet.packet u.waiting c.in_ok-packet.ensures.items through c.self.invariant.counted;
      numbered = omega (arith, long, numbered);
    }

pub returns-clause-answer : goal.returns-clause-answer
returns-clause-answer c =
    let u = c.self.inside in
    let front = c.in_ok-front.field-0.now in
    let same = first_is u.packets.items c.pop_front.new.self.items front c.in_ok-packet.packet c.in_ok-packet.ensures.items c.in_ok-front.ensures.lookup in
    let through : c.in_ok-packet.packet.left ≡ 0 = omega (arith, same) in
    sym (ap decided (sym c.self.view_is) ∙ handed_colour u.accepted.now u.meters.items u.first u.packets.items c.pop_front.new.self.items c.in_ok-packet.packet u.waiting c.in_ok-packet.ensures.items through c.self.invariant.counted)

pub returns-clause-handed : goal.returns-clause-handed
returns-clause-handed c =
    let u = c.self.inside in
    let front = c.in_ok-front.field-0.now in
    let same = first_is u.packets.items c.pop_front.new.self.items front c.in_ok-packet.packet c.in_ok-packet.ensures.items c.in_ok-front.ensures.lookup in
    let through : c.in_ok-packet.packet.left ≡ 0 = omega (arith, same) in
    handed_told u.accepted.now u.meters.items u.first u.packets.items c.pop_front.new.self.items c.in_ok-packet.packet u.waiting c.in_ok-packet.ensures.items through c.self.invariant.counted ∙ ap handed c.self.view_is

pub returns-clause-comes : goal.returns-clause-comes
returns-clause-comes c back =
    let u = c.self.inside in
    let front = c.in_ok-front.field-0.now in
    let same = first_is u.packets.items c.pop_front.new.self.items front c.in_ok-packet.packet c.in_ok-packet.ensures.items c.in_ok-front.ensures.lookup in
    let through : c.in_ok-packet.packet.left ≡ 0 = omega (arith, same) in
    ap (λ w. colours_left w back) (sym c.self.view_is) ∙ handed_all u.accepted.now u.meters.items u.first u.packets.items c.pop_front.new.self.items c.in_ok-packet.packet u.waiting c.in_ok-packet.ensures.items through c.self.invariant.counted c.self.invariant.stream back
