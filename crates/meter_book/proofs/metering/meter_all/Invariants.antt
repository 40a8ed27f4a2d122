use Rattle.std.proofs.Common.{◌≡◌, ◌≤◌, ◌++◌, drop, length, map}
use Rattle.std.specs.Vec.{vec_capacity, vec_len}
use Rattle.meter_book.specs.Laws.{after_all, colours_left}
use Rattle.meter_book.specs.Replay.{offer_of}
use Rattle.meter_book.proofs.metering.meter_all.Given as goal

abbrev pub invariant-loop-arrival : goal.invariant-loop-arrival
invariant-loop-arrival g l = record {
  so_far : l.colours.items ++ colours_left g.M.Meter.how l.meter (map offer_of (drop l.arrival-index l.arrivals)) ≡ colours_left g.M.Meter.how l.fn.meter (map offer_of l.arrivals);
  met : after_all g.M.Meter.how l.meter (map offer_of (drop l.arrival-index l.arrivals)) ≡ after_all g.M.Meter.how l.fn.meter (map offer_of l.arrivals);
  counted : vec_len l.colours ≡ l.arrival-index;
  room : length l.arrivals ≤ vec_capacity l.colours;
}
