use Rattle.std.proofs.Common.{◌≡◌, ◌∷◌, [], ◌++◌, arith}
use Rattle.meter_fabric_base.proofs.TrailLaws.{trail_of-received}
use Rattle.meter_fabric_base.specs.Kept.{traveller_of}
use Rattle.meter_fabric_base.proofs.traveller.Traveller.receive.Goals as goal

pub invariant_of-self : goal.invariant_of-self
invariant_of-self c =
    let i = c.self.inside in
    let pushed : c.push.new.self.items ≡ i.trail.receipts.items ++ record { site = c.args.hop.site; row = c.args.row } ∷ [] = rw c.unwrap.ensures at c.push.ensures.items in
    record {
      trail = rw pushed (trail_of-received (traveller_of i) c.args.hop c.args.row c.self.invariant.trail
          (rw (← c.self.view_is) at c.requires.next) (rw (← c.self.view_is) at c.requires.own));
      room = omega (arith, c.self.invariant.room, c.push.ensures.capacity);
    }
