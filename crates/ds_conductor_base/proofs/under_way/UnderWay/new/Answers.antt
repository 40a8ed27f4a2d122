use Rattle.std.proofs.Common.{ap, arith, length, subst, sym}
use Rattle.ds_conductor_base.specs.Ways.{AreWays}
use Rattle.ds_conductor_base.specs.Packets.{carried_in, lefts_of}
use Rattle.ds_conductor_base.proofs.CountLaws.{counted_none}
use Rattle.ds_conductor_base.proofs.StreamLaws.{begun_stream}
use Rattle.ds_conductor_base.proofs.under_way.UnderWay.new.Goals as goal

pub invariant_of-result : goal.invariant_of-result
invariant_of-result c = record {
  ways = subst (λ ways. AreWays c.args.accepted.now ways) (sym c.number_all-delays.ensures) c.in_ok-ways.ensures.ways;
  stream = begun_stream c.args.accepted.now c.in_ok-meters.meters.items (carried_in c.new.result.items) c.new-2.result (ap carried_in c.new.ensures.items) c.new-2.ensures;
  counted = counted_none 0 (lefts_of c.new.result.items) c.new-2.result (ap lefts_of c.new.ensures.items);
  numbered = let none = ap length c.new.ensures.items in omega (arith, none);
}
