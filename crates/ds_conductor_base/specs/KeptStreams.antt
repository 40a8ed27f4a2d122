-- What the fields of packets under way stand for, and what they keep.
use Rattle.std.specs.Prelude.{◌≡◌, ℕ, ◌+◌, ◌<◌, ◌^◌, nat_eq, List, length, count_by, slice_index}
use Rattle.ds_conductor_base.specs.Packets.{carried_in, lefts_of}
use Rattle.ds_conductor_base.specs.Streams.{IsStream, Stream}
use Rattle.ds_conductor_base.specs.Ways.{AreWays}
use Rattle.ds_conductor_base.specs.declared.under_way.UnderWay.TheInside as streams
use Rattle.ds_conductor_base.specs.declared.visit.Visit.{Visit}

abbrev pub stream_of : streams.Inside → Stream
stream_of u = record {
  table = u.accepted.now;
  traffic = record { meters = u.meters.items; first = u.first; packets = carried_in u.packets.items };
  waiting = u.waiting;
}

-- Each number is that of the waiting visits of the packet of a place, the first of which is this.
abbrev pub AreCounted : ℕ → List ℕ → List Visit → Type 0
AreCounted first lefts visits =
    (k : ℕ) → k < length lefts → slice_index lefts k ≡ count_by (λ v. nat_eq v.place (first + k)) visits

pub record IsUnderWay (u : streams.Inside) : Type 0 where
  pub ways : AreWays u.accepted.now u.ways.items
  pub stream : IsStream (stream_of u)
  pub counted : AreCounted u.first (lefts_of u.packets.items) u.waiting
  pub numbered : u.first + length u.packets.items < 2 ^ 64
