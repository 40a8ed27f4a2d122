-- What the fields of a running meter stand for, and what they keep.
use Rattle.std.specs.Prelude.{◌≡◌, ◌≤◌, None}
use Rattle.meter_book.specs.declared.running.RunningMeter.TheInside as running
use Rattle.meter_book.specs.Replay.{most_places}
use Rattle.meter_book.specs.Running.{Running}
use Rattle.meter_book.specs.Tallies.{IsSized, accounts_in, packets_in}

abbrev pub running_of : running.Inside → Running
running_of r = record {
  standing = record {
    meter = r.meter;
    skew = r.skew;
    accounts = accounts_in r.tallies;
    place = r.count;
    shut = None;
  };
  most = r.most;
}

-- each arrival that it took is a packet of its sums
pub record IsRunning (r : running.Inside) : Type 0 where
  pub packets : packets_in r.tallies ≡ r.count
  pub sized : IsSized r.tallies
  pub within : r.count ≤ r.most
  pub limit : r.most ≤ most_places
