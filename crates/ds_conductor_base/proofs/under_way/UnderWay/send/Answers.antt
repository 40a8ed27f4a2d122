use Rattle.std.proofs.Common.{◌≡◌, ◌+◌, ◌++◌, ◌∷◌, [], ap, length, refl, ◌∙◌, arith, is_ok, if◌then◌else◌}
use Rattle.ds_conductor_base.specs.Streams.{colours_left, next_place}
use Rattle.ds_conductor_base.proofs.UnderWayLaws.{length-carried, own_stops, sent_all, sent_apart, sent_count, sent_counted, sent_is}
use Rattle.ds_conductor_base.specs.declared.passing.OnTheWay.{OnTheWay}
use Rattle.ds_conductor_base.proofs.under_way.UnderWay.send.Goals as goal

pub add-requires : goal.add-requires
add-requires c =
    let u = c.self.inside in
    let placed : u.first + c.len.result ≡ u.first + length u.packets.items = omega arith in
    let own = own_stops c.self.inside.accepted.now c.self.inside.ways.items c.deref.result.now c.args.packet.flow c.stops_at-stops.result.now c.self.invariant.ways c.deref.ensures.value c.stops_at-stops.ensures in
    sent_apart c.self.inside.accepted.now u.meters.items u.first u.packets.items u.waiting c.args.packet (u.first + c.len.result) c.stops_at-stops.result.now placed own c.self.invariant.stream

pub invariant_of-self-2 : goal.invariant_of-self-2
invariant_of-self-2 c =
    let u = c.self.inside in
    let placed : u.first + c.len.result ≡ u.first + length u.packets.items = omega arith in
    let own = own_stops c.self.inside.accepted.now c.self.inside.ways.items c.deref.result.now c.args.packet.flow c.stops_at-stops.result.now c.self.invariant.ways c.deref.ensures.value c.stops_at-stops.ensures in
    let put : OnTheWay = record { size = c.args.packet.size; colour = c.came-colour.result; left = length c.stops_at-stops.result.now } in
    let there : c.push_back.new.self.items ≡ (if is_ok c.push_back.result then c.reserve.new.self.items ++ put ∷ [] else c.reserve.new.self.items) = c.push_back.ensures.items in
    let pushed : c.push_back.new.self.items ≡ u.packets.items ++ put ∷ [] =
    there ∙ ap (λ r. if is_ok r then c.reserve.new.self.items ++ put ∷ [] else c.reserve.new.self.items) c.unwrap.ensures ∙ ap (λ items. items ++ put ∷ []) c.reserve.ensures.items in
    let count = sent_count c.self.inside.accepted.now u.meters.items u.first u.packets.items u.waiting c.args.packet (u.first + c.len.result) c.stops_at-stops.result.now placed own c.self.invariant.stream
    c.add.new.self c.push_back.new.self.items c.came-colour.result (length c.stops_at-stops.result.now) c.in_ok-add.ensures.added pushed c.came-colour.ensures in
    let carried = length-carried u.packets.items in
    let shown = ap next_place c.self.view_is in
    let room = c.requires in
    record {
      ways = c.self.invariant.ways;
      stream = sent_is c.self.inside.accepted.now u.meters.items u.first u.packets.items u.waiting c.args.packet (u.first + c.len.result) c.stops_at-stops.result.now placed own c.self.invariant.stream
          c.add.new.self c.push_back.new.self.items c.came-colour.result (length c.stops_at-stops.result.now) c.in_ok-add.ensures.added pushed c.came-colour.ensures;
      counted = sent_counted c.self.inside.accepted.now u.meters.items u.first u.packets.items u.waiting c.args.packet (u.first + c.len.result) c.stops_at-stops.result.now placed own c.self.invariant.stream
          c.add.new.self c.push_back.new.self.items c.came-colour.result (length c.stops_at-stops.result.now) c.in_ok-add.ensures.added pushed c.came-colour.ensures
          refl c.self.invariant.counted;
      numbered = omega (arith, count, carried, shown, room);
    }

pub returns-clause-comes : goal.returns-clause-comes
returns-clause-comes c back =
    let u = c.self.inside in
    let placed : u.first + c.len.result ≡ u.first + length u.packets.items = omega arith in
    let own = own_stops c.self.inside.accepted.now c.self.inside.ways.items c.deref.result.now c.args.packet.flow c.stops_at-stops.result.now c.self.invariant.ways c.deref.ensures.value c.stops_at-stops.ensures in
    let put : OnTheWay = record { size = c.args.packet.size; colour = c.came-colour.result; left = length c.stops_at-stops.result.now } in
    let there : c.push_back.new.self.items ≡ (if is_ok c.push_back.result then c.reserve.new.self.items ++ put ∷ [] else c.reserve.new.self.items) = c.push_back.ensures.items in
    let pushed : c.push_back.new.self.items ≡ u.packets.items ++ put ∷ [] =
    there ∙ ap (λ r. if is_ok r then c.reserve.new.self.items ++ put ∷ [] else c.reserve.new.self.items) c.unwrap.ensures ∙ ap (λ items. items ++ put ∷ []) c.reserve.ensures.items in
    sent_all c.self.inside.accepted.now u.meters.items u.first u.packets.items u.waiting c.args.packet (u.first + c.len.result) c.stops_at-stops.result.now placed own c.self.invariant.stream
    c.add.new.self c.push_back.new.self.items c.came-colour.result (length c.stops_at-stops.result.now) c.in_ok-add.ensures.added pushed c.came-colour.ensures back
    ∙ ap (λ w. colours_left w (c.args.packet ∷ back)) c.self.view_is
