use Rattle.std.proofs.Common.{◌≡◌, length, ap, arith}
use Rattle.flow_classifier.proofs.TableLaws.{beside_more}
use Rattle.flow_classifier.proofs.table.Group.push.Goals as goal

pub invariant_of-self-2 : goal.invariant_of-self-2
invariant_of-self-2 c =
    let place : c.len-place.result ≡ length c.self.inside.rules.items = omega (arith, c.len-place.ensures, ap length c.reserve.ensures.items) in
    rw (c.set.ensures, c.push.ensures.items, c.unwrap.ensures, c.reserve.ensures.items, place)
    (beside_more c.self.inside.sources c.self.inside.rules.items c.args.row (omega (arith, c.requires, ap length c.self.view_is)) c.self.invariant)
